-- The seat and those that are left have all numbers, and know their turns where all did.
use Rattle.std.proofs.Common.{◌≡◌, ℕ, ◌+◌, length}
use Rattle.std.specs.Prelude.{All}
use Rattle.turn_lock.specs.Lists.{count_of}
use Rattle.turn_lock.specs.Seats.{numbers_of}
use Rattle.shared_sum.specs.Callers.{HasSeat, KnowsTurns, HasKnownTurns, count_in}
use Rattle.shared_sum.proofs.seats.joined_seat_of.Given as goal

abbrev pub invariant-loop-caller : goal.invariant-loop-caller
invariant-loop-caller l =
    (l.seat.lock ≡ l.lock.id)
    × All (HasSeat l.lock.id) l.all.items
    × ((number : ℕ)
    → count_in number l.all.items + count_of number (numbers_of l.seat)
    ≡ count_in number l.fn.all.items)
    × ((turns : ℕ)
    → All (HasKnownTurns turns) l.fn.all.items
    → All (HasKnownTurns turns) l.all.items × KnowsTurns turns l.seat)

abbrev pub decreases-loop-caller : goal.decreases-loop-caller
decreases-loop-caller l = length l.all.items
