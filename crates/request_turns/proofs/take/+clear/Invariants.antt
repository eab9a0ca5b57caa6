use Rattle.std.proofs.Common.{length}
use Rattle.request_turns.proofs.take.+clear.Given as goal

abbrev pub decreases-clear : goal.decreases-clear
decreases-clear g l = length l.blanks.items
