use Rattle.std.proofs.Common.{◌≡◌, length}
use Rattle.request_turns.proofs.room.blanks.Given as goal

-- there are as many as were made
abbrev pub invariant-loop : goal.invariant-loop
invariant-loop g l = length l.blanks.items ≡ l.counter
