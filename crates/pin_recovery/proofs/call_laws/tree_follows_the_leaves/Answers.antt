use Rattle.pin_recovery.proofs.FollowLemmas.{follows}
use Rattle.pin_recovery.proofs.call_laws.tree_follows_the_leaves.Goals as goal

pub returns : goal.returns
returns c = follows
