use Rattle.std.proofs.Common.{length}
use Rattle.client_seats.proofs.gathering.+join_last.Given as goal

abbrev pub decreases-join_last : goal.decreases-join_last
decreases-join_last g l = length l.clients.now
