-- Clients while seats are dealt to them.
use Rattle.std.specs.Prelude.{ℕ, ◌+◌, ◌≤◌, List, [], ◌∷◌, ◌++◌, length, Option, Some, vec_capacity}
use Rattle.turn_lock.specs.Seats.{LockId, SeatView, new_seat}
use Rattle.client_seats.specs.Clients.{new_slots}
use Rattle.client_seats.specs.declared.seats.ClientSeats.{ClientSeats}

-- a client with the number of slots for which it has room
pub record ClientRoom (E : Type 0) : Type 0 where
  pub number : ℕ
  pub slots : List (Option (SeatView E))
  pub room : ℕ

abbrev pub room_view : {T E : Type 0} → ClientSeats T E → ClientRoom E
room_view client =
    record { number = client.number; slots = client.seats.items; room = vec_capacity client.seats }

module _ {E : Type 0} where
  -- the client with this number, with no seat, and room for so many
  abbrev pub without_seats : ℕ → ℕ → ClientRoom E
  without_seats room number = record { number = number; slots = []; room = room }

  -- there is room for so many seats more
  abbrev pub HasRoom : ℕ → ClientRoom E → Type 0
  HasRoom more client = length client.slots + more ≤ client.room

  -- the client with its seat of one lock more
  abbrev pub with_seat : LockId → ClientRoom E → ClientRoom E
  with_seat lock client = record client { slots = client.slots ++ Some (new_seat lock client.number []) ∷ [] }

  -- the client with its seats of these locks besides
  abbrev pub with_seats : List LockId → ClientRoom E → ClientRoom E
  with_seats locks client = record client { slots = client.slots ++ new_slots locks client.number }
