-- The clients' seats, when they are joined.
use Rattle.std.specs.Prelude.{◌≡◌, ℕ, ◌<◌, List, [], ◌∷◌, ◌++◌, map, length, Option, Some, slice_index_or}
use Rattle.std.specs.List.{AllByRecursion}
use Rattle.turn_lock.specs.Lists.{count_of}
use Rattle.turn_lock.specs.Seats.{Lock, LockId, SeatView, HasEachNumber, new_seat}
use Rattle.client_seats.specs.Clients.{ClientView, known_at}
use Rattle.client_seats.specs.declared.seats.WholeLock.{WholeLock}

-- each number below the bound is one of these
abbrev pub HaveEachNumber : List ℕ → ℕ → Type 0
HaveEachNumber numbers bound = (number : ℕ) → number < bound → 0 < count_of number numbers

-- what holds of each element with its place
abbrev pub EachAt : {X : Type 0} → (ℕ → X → Type 0) → List X → Type 0
EachAt {X} P xs = (place : ℕ) (d : X) → place < length xs → P place (slice_index_or xs place d)

-- a client's last seat, apart from the others
pub record LastSeat (E : Type 0) : Type 0 where
  pub number : ℕ
  pub front : List (Option (SeatView E))
  pub seat : SeatView E

module _ {E : Type 0} where
  -- the seat is of this lock, and has all its numbers
  pub record IsWholeSeat (lock : LockId) (seat : SeatView E) : Type 0 where
    pub of : seat.lock ≡ lock
    pub numbers : HasEachNumber seat

  -- the seat has these numbers and no others, and knows these entries of each
  pub record Knows (known : List (ℕ × List (ℕ × E))) (seat : SeatView E) : Type 0 where
    pub known_is : (seat.caller, seat.own) ∷ seat.joined ≡ known
    pub spare : seat.spare ≡ []

  -- but for what it knows, the seat is the one of this lock that was dealt to the client
  abbrev pub IsSeatOfClient : LockId → ℕ → SeatView E → Type 0
  IsSeatOfClient lock number seat = record seat { own = [] } ≡ new_seat lock number []

  -- the client's last seat is the one of this lock that was dealt to it
  pub record HasLast (lock : LockId) (client : ClientView E) : Type 0 where
    pub front : List (Option (SeatView E))
    pub seat : SeatView E
    pub slots_are : client.slots ≡ front ++ Some seat ∷ []
    pub is_of : IsSeatOfClient lock client.number seat

  -- the client with its last seat, and without it
  abbrev pub with_last : LastSeat E → ClientView E
  with_last last = record { number = last.number; slots = last.front ++ Some last.seat ∷ [] }

  abbrev pub without_last : LastSeat E → ClientView E
  without_last last = record { number = last.number; slots = last.front }

  -- what the client's last seat knows
  abbrev pub known_of_last : LastSeat E → ℕ × List (ℕ × E)
  known_of_last last = (last.number, last.seat.own)

  -- the clients' last seats, which are of this lock, were taken from them and joined in order
  pub record JoinsLast (lock : LockId) (old new : List (ClientView E)) (whole : SeatView E) : Type 0 where
    pub taken : List (LastSeat E)
    pub old_is : old ≡ map with_last taken
    pub new_is : new ≡ map without_last taken
    pub are_of : AllByRecursion (λ last. IsSeatOfClient lock last.number last.seat) taken
    pub of : whole.lock ≡ lock
    pub knows : Knows (map known_of_last taken) whole

  -- these clients' seats were joined, and stand with their locks behind others
  pub record Gathers {T : Type 0} (clients : List (ClientView E)) (locks : List (Lock T))
      (old new : List (WholeLock T E)) : Type 0 where
    pub more : List (WholeLock T E)
    pub new_is : new ≡ old ++ more
    pub locks_are : map (λ whole. whole.lock) more ≡ locks
    pub whole : AllByRecursion (λ whole. IsWholeSeat whole.lock.id whole.seat) more
    pub knows : EachAt (λ account whole. Knows (known_at account clients) whole.seat) more
