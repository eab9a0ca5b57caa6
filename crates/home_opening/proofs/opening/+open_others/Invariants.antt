use Rattle.std.proofs.Common.{length}
use Rattle.home_opening.proofs.opening.+open_others.Given as goal

abbrev pub decreases-open_others : goal.decreases-open_others
decreases-open_others g l = length l.names.now
