use Rattle.secret_stash.proofs.OpenLaws.{dropped-gone, dropped-others}
use Rattle.secret_stash.proofs.laws.dropped_block_is_gone.Goals as goal

pub returns-clause-gone : goal.returns-clause-gone
returns-clause-gone c = dropped-gone

pub returns-clause-others : goal.returns-clause-others
returns-clause-others c = dropped-others
