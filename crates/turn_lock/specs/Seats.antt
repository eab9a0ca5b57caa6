-- What contracts see of a lock, of a caller's seat, and of a seat that has the lock.
use Rattle.std.specs.Prelude.{◌≡◌, ℕ, ◌+◌, ◌-◌, ◌<◌, List, [], ◌∷◌, ◌++◌, map, length, All}
use Rattle.atomic_table.specs.Seated.{TableId}
use Rattle.std.specs.List.{range_with_len}
use Rattle.turn_lock.specs.Lists.{count_of, entries_of}

-- which lock it is, and for how many callers it was made
pub record LockId : Type 0 where
  pub table : TableId
  pub callers : ℕ

-- a lock: which it is, and the value that it was made with
pub record Lock (T : Type 0) : Type 0 where
  pub id : LockId
  pub first : T

-- A caller's seat. `own` has the caller's entries, each with its place, and `joined` the numbers of
-- the seats that this one joined, each with its entries.
pub record SeatView (E : Type 0) : Type 0 where
  pub lock : LockId
  pub caller : ℕ
  pub own : List (ℕ × E)
  pub joined : List (ℕ × List (ℕ × E))
  pub spare : List ℕ

-- A seat that has the lock, the entries so far, the value, and the entry that is to follow.
pub record HeldView (T E : Type 0) : Type 0 where
  pub seat : SeatView E
  pub before : List E
  pub value : T
  pub entry : E

module _ {E : Type 0} where
  -- a seat that has only just been given its number
  abbrev pub new_seat : LockId → ℕ → List ℕ → SeatView E
  new_seat lock caller spare =
      record { lock = lock; caller = caller; own = []; joined = []; spare = spare }

  -- the seat of a new lock: the number 0, and all others to be given away
  abbrev pub first_seat : LockId → SeatView E
  first_seat lock = new_seat lock 0 (range_with_len 1 (lock.callers - 1))

  -- the seat that keeps what the other knew and had
  abbrev pub joined_seat : SeatView E → SeatView E → SeatView E
  joined_seat seat other = record seat {
    joined = seat.joined ++ (other.caller, other.own) ∷ other.joined;
    spare = seat.spare ++ other.spare;
  }

  -- the seat after a turn: its entry stands behind the entries before it
  abbrev pub seat_after : SeatView E → List E → E → SeatView E
  seat_after seat before entry =
      record seat { own = seat.own ++ (length before, entry) ∷ [] }

  -- the numbers of a seat: its own, the joined and the spare ones
  abbrev pub numbers_of : SeatView E → List ℕ
  numbers_of seat = seat.caller ∷ (map (λ known. known.0) seat.joined ++ seat.spare)

  -- each number stands in the whole as often as in the two parts together
  abbrev pub HasNumbersOf : SeatView E → SeatView E → SeatView E → Type 0
  HasNumbersOf whole left right = (number : ℕ)
      → count_of number (numbers_of whole)
      ≡ count_of number (numbers_of left) + count_of number (numbers_of right)

  -- the seat's numbers are all the numbers of its lock
  abbrev pub HasEachNumber : SeatView E → Type 0
  HasEachNumber seat = (number : ℕ)
      → number < seat.lock.callers → 0 < count_of number (numbers_of seat)

  -- what a seat knows of each of its numbers is that number's entries, at their places
  pub record Recalls (caller_of : E → ℕ) (entries : List E) (seat : SeatView E) : Type 0 where
    pub own : entries_of caller_of seat.caller entries ≡ seat.own
    pub joined : All (λ known. entries_of caller_of known.0 entries ≡ known.1) seat.joined
    pub spare : All (λ number. entries_of caller_of number entries ≡ []) seat.spare
