-- The seat is of the lock, and has made some turns.
use Rattle.std.proofs.Common.{◌≡◌, None}
use Rattle.shared_sum.specs.Callers.{MakesTurns}
use Rattle.shared_sum.proofs.callers.add_turns.Given as goal

abbrev pub invariant-loop : goal.invariant-loop
invariant-loop g l =
    (l.caller.seat ≡ None)
    × (l.caller.turns ≡ l.fn.caller.turns)
    × (l.seat.lock ≡ l.lock.id)
    × MakesTurns l.initial.seat l.seat l.fn.caller.places.items l.caller.places.items
