use Rattle.pw_path.proofs.TreeLemmas.{aux_of_same}
use Rattle.pw_path.proofs.laws.siblings_stay.Goals as goal

pub returns : goal.returns
returns c = aux_of_same
