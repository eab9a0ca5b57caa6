use Rattle.secret_stash.proofs.OpenLaws.{data_of_one}
use Rattle.secret_stash.proofs.laws.data_of_one_block.Goals as goal

pub returns : goal.returns
returns c = data_of_one
