use Rattle.std.proofs.Common.{length}
use Rattle.home_opening.proofs.closing.+close_accounts.Given as goal

abbrev pub decreases-close_accounts : goal.decreases-close_accounts
decreases-close_accounts g l = length l.accounts.items
