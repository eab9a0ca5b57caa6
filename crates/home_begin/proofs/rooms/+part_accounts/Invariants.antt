use Rattle.std.proofs.Common.{length}
use Rattle.home_begin.proofs.rooms.+part_accounts.Given as goal

abbrev pub decreases-part_accounts : goal.decreases-part_accounts
decreases-part_accounts g l = length l.accounts.now.items
