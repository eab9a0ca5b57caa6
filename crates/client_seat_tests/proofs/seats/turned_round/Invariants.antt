-- The clients that are left and those turned round have the seats and numbers of all.
use Rattle.std.proofs.Common.{◌≡◌, ◌≤◌, ℕ, ◌+◌, List, map, length, All, vec_capacity}
use Rattle.turn_lock.specs.Lists.{count_of}
use Rattle.turn_lock.specs.Seats.{LockId}
use Rattle.client_seats.specs.Clients.{client_view, HasItsSeats}
use Rattle.client_seat_tests.proofs.seats.turned_round.Given as goal

abbrev pub invariant-loop-client : goal.invariant-loop-client
invariant-loop-client l =
    (length l.turned.items + length l.clients.items ≡ length l.fn.clients.items)
    × (length l.fn.clients.items ≤ vec_capacity l.turned)
    × ((locks : List LockId)
    → All (HasItsSeats locks) (map client_view l.fn.clients.items)
    → All (HasItsSeats locks) (map client_view l.clients.items)
    × All (HasItsSeats locks) (map client_view l.turned.items))
    × ((number : ℕ)
    → count_of number (map (λ client. client.number) l.clients.items)
    + count_of number (map (λ client. client.number) l.turned.items)
    ≡ count_of number (map (λ client. client.number) l.fn.clients.items))

abbrev pub decreases-loop-client : goal.decreases-loop-client
decreases-loop-client l = length l.clients.items
