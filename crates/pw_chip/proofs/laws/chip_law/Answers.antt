use Rattle.pw_chip.proofs.LawLemmas.{chip_law}
use Rattle.pw_chip.proofs.laws.chip_law.Goals as goal

pub returns : goal.returns
returns c = chip_law
