-- The seats that were given away and the one that is left have the first seat's numbers.
use Rattle.std.proofs.Common.{◌≡◌, ℕ, ◌+◌, length}
use Rattle.std.specs.Prelude.{All}
use Rattle.turn_lock.specs.Lists.{count_of}
use Rattle.turn_lock.specs.Seats.{numbers_of}
use Rattle.shared_sum.specs.Callers.{HasSeat, IsNewCaller, count_in}
use Rattle.shared_sum.proofs.seats.callers_of.Given as goal

abbrev pub invariant-loop-number : goal.invariant-loop-number
invariant-loop-number l =
    (l.seat.lock ≡ l.lock.id)
    × (length l.seat.spare + l.number ≡ l.callers)
    × All (HasSeat l.lock.id) l.all.items
    × ((number : ℕ)
    → count_in number l.all.items + count_of number (numbers_of l.seat)
    ≡ count_of number (numbers_of l.fn.first))
    × (l.seat.own ≡ l.fn.first.own)
    × (l.seat.joined ≡ l.fn.first.joined)
    × All (IsNewCaller l.turns) l.all.items
