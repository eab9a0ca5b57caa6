use Rattle.pw_chip.proofs.LeafLemmas.{leaf_of_run}
use Rattle.pw_chip.proofs.laws.leaf_law.Goals as goal

pub returns : goal.returns
returns c = leaf_of_run
