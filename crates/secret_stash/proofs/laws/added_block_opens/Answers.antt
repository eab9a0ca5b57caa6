use Rattle.secret_stash.proofs.OpenLaws.{added-opens, added-others}
use Rattle.secret_stash.proofs.laws.added_block_opens.Goals as goal

pub returns-clause-opens : goal.returns-clause-opens
returns-clause-opens c = added-opens

pub returns-clause-others : goal.returns-clause-others
returns-clause-others c = added-others
