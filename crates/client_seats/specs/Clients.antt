-- The seats that a client has of the accounts' locks.
use Rattle.std.specs.Prelude.{◌≡◌, ℕ, List, [], map, Option, None, Some, slice_index_or}
use Rattle.turn_lock.specs.Seats.{LockId, SeatView, new_seat}
use Rattle.client_seats.specs.declared.seats.ClientSeats.{ClientSeats}

-- A client: its number, and its slots, in the order of the accounts. The seat in a slot is away during a turn.
pub record ClientView (E : Type 0) : Type 0 where
  pub number : ℕ
  pub slots : List (Option (SeatView E))

abbrev pub client_view : {T E : Type 0} → ClientSeats T E → ClientView E
client_view client = record { number = client.number; slots = client.seats.items }

module _ {E : Type 0} where
  -- slots with a seat of each lock, which has this number and knows nothing
  abbrev pub new_slots : List LockId → ℕ → List (Option (SeatView E))
  new_slots locks number = map (λ lock. Some (new_seat lock number [])) locks

  -- the client with this number, with its seats as they are dealt
  abbrev pub new_client : List LockId → ℕ → ClientView E
  new_client locks number = record { number = number; slots = new_slots locks number }

  -- a slot without what its seat knows
  abbrev pub bare_of : Option (SeatView E) → Option (SeatView E)
  bare_of None = None
  bare_of (Some seat) = Some (record seat { own = [] })

  -- the client has the seats that were dealt to it, which may know entries since
  abbrev pub HasItsSeats : List LockId → ClientView E → Type 0
  HasItsSeats locks client = map bare_of client.slots ≡ new_slots locks client.number

  -- the entries, with their places, that the seat in a slot knows
  abbrev pub own_in : Option (SeatView E) → List (ℕ × E)
  own_in None = []
  own_in (Some seat) = seat.own

  -- what a client knows of an account: its number, with the entries that its seat knows
  abbrev pub known_of : ℕ → ClientView E → ℕ × List (ℕ × E)
  known_of account client = (client.number, own_in (slice_index_or client.slots account None))

  -- what clients know of an account, in their order
  abbrev pub known_at : ℕ → List (ClientView E) → List (ℕ × List (ℕ × E))
  known_at account clients = map (known_of account) clients
