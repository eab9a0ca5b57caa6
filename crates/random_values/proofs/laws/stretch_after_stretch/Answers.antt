use Rattle.random_values.proofs.laws.stretch_after_stretch.Goals as goal
use Rattle.random_values.proofs.StretchLemmas.{stretched}

pub returns : goal.returns
returns c = stretched
