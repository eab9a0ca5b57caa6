use Rattle.std.proofs.Common.{length}
use Rattle.home_begin.proofs.rooms.+join_accounts.Given as goal

abbrev pub decreases-join_accounts : goal.decreases-join_accounts
decreases-join_accounts g l = length l.locks.items
