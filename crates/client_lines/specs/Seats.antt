-- A client's seat of a home, which may be away during a call, and what stays of it.
use Rattle.std.specs.Prelude.{◌≡◌, ℕ, Bool, List, [], Option, None, Some, map}
use Rattle.turn_lock.specs.Seats.{LockId}
use Rattle.request_loop.specs.Exchange.{Exchange}
use Rattle.client_output.specs.Grown.{SeatSeen, Grew}
use Rattle.client_output.specs.Seats.{BareSeat}

-- the lock and the number of a seat
abbrev pub place_of : Option BareSeat → Option (LockId × ℕ)
place_of None = None
place_of (Some seat) = Some (seat.lock, seat.caller)

-- the places of a client: its number at each lock
abbrev pub places_of : List LockId → ℕ → List (Option (LockId × ℕ))
places_of locks caller = map (λ lock. Some (lock, caller)) locks

-- the seats are those of a client of these locks, one of each in their order
abbrev pub AreSeatsOf : List LockId → ℕ → List (Option BareSeat) → Type 0
AreSeatsOf locks caller seats = map place_of seats ≡ places_of locks caller

module _ {T : Type 0} (seen : T → SeatSeen) where
  -- what a seat knows that may be away
  abbrev pub seen_at : Option T → SeatSeen
  seen_at None = record { caller = 0; owned = [] }
  seen_at (Some seat) = seen seat

module _ {T : Type 0} (bare : T → List (Option BareSeat)) where
  -- what stays of a seat that may be away
  abbrev pub bare_at : Option T → Option (List (Option BareSeat))
  bare_at None = None
  bare_at (Some seat) = Some (bare seat)

  -- its places
  abbrev pub places_at : Option T → Option (List (Option (LockId × ℕ)))
  places_at None = None
  places_at (Some seat) = Some (map place_of (bare seat))

module _ {T : Type 0} (seen : T → SeatSeen) (bare : T → List (Option BareSeat)) where
  -- the seat is there, and is a client's of these locks
  abbrev pub IsSeated : List LockId → Option T → Type 0
  IsSeated locks seat = places_at bare seat ≡ Some (places_of locks (seen_at seen seat).caller)

  -- since it was the first, the seat has answered these lines, and is the same but for what it knows
  pub record Answered (pins : Bool) (start now : Option T) (lines : List Exchange) : Type 0 where
    pub same : bare_at bare now ≡ bare_at bare start
    pub grew : Grew pins (seen_at seen start) (seen_at seen now) lines
