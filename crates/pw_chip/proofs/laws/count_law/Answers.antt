use Rattle.pw_chip.proofs.CountLemmas.{count_of_run}
use Rattle.pw_chip.proofs.laws.count_law.Goals as goal

pub returns : goal.returns
returns c = count_of_run
