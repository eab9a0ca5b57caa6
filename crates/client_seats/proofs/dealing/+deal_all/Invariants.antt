use Rattle.std.proofs.Common.{length}
use Rattle.client_seats.proofs.dealing.+deal_all.Given as goal

abbrev pub decreases-deal_all : goal.decreases-deal_all
decreases-deal_all g l = length l.locks.now
