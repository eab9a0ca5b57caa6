use Rattle.std.proofs.Common.{length}
use Rattle.client_seats.proofs.dealing.+split_among.Given as goal

abbrev pub decreases-split_among : goal.decreases-split_among
decreases-split_among g l = length l.clients.now
