-- Callers with their seats, before and after their turns.
use Rattle.std.specs.Prelude.{◌≡◌, ℕ, ◌%◌, ◌^◌, ◌<◌, List, [], ◌∷◌, ◌++◌, map, length, slice_index_or, Option, None, Some, IsSomeAnd}
use Rattle.std.specs.List.{AllByRecursion, range_with_len, sum_by}
use Rattle.turn_lock.specs.Lists.{count_of}
use Rattle.turn_lock.specs.Seats.{LockId, SeatView, numbers_of}
use Rattle.shared_sum.specs.Summed.{amount_of}
use Rattle.shared_sum.specs.declared.sum.Added.{Added}
use Rattle.shared_sum.specs.declared.callers.Caller.{Caller}

-- the caller has a seat of this lock
abbrev pub HasSeat : LockId → Caller → Type 0
HasSeat id caller = IsSomeAnd caller.seat (λ seat. seat.lock ≡ id)

-- the numbers of a caller's seat
abbrev pub numbers_at : Option (SeatView Added) → List ℕ
numbers_at None = []
numbers_at (Some seat) = numbers_of seat

-- how often the callers have a number
abbrev pub count_in : ℕ → List Caller → ℕ
count_in number callers = sum_by (λ caller. count_of number (numbers_at caller.seat)) callers

-- the callers have all numbers of the lock
abbrev pub HaveAllNumbers : LockId → List Caller → Type 0
HaveAllNumbers id callers = (number : ℕ) → number < id.callers → 0 < count_in number callers

abbrev pub KeepsNumbers : Caller → Caller → Type 0
KeepsNumbers old new = numbers_at new.seat ≡ numbers_at old.seat

-- each caller has the numbers that it had
pub record EachKeepsNumbers (old new : List Caller) : Type 0 where
  pub count : length new ≡ length old
  pub each : (k : ℕ) (caller : Caller)
      → k < length old
      → KeepsNumbers (slice_index_or old k caller) (slice_index_or new k caller)

-- the seat has one entry more, at some place that is this one modulo 2^64
abbrev pub AddsEntry : SeatView Added → SeatView Added → ℕ → ℕ → Type 0
AddsEntry old new amount reduced = (place : ℕ) × (total : ℕ)
    × (reduced ≡ place % 2 ^ 64)
    × (new ≡ record old {
      own = old.own ++ (place, record { caller = old.caller; amount = amount; total = total }) ∷ [];
    })

-- the amounts of entries, and their places modulo 2^64
abbrev pub amounts_of : List (ℕ × Added) → List ℕ
amounts_of entries = map (λ known. amount_of known.1) entries

abbrev pub places_of : List (ℕ × Added) → List ℕ
places_of entries = map (λ known. known.0 % 2 ^ 64) entries

-- The seat has some entries more, whose amounts go on from the number of places told before, and
-- whose places were told.
pub record MakesTurns (old new : SeatView Added) (before after : List ℕ) : Type 0 where
  pub entries : List (ℕ × Added)
  pub seat : new ≡ record old { own = old.own ++ entries }
  pub amounts : amounts_of entries ≡ range_with_len (length before) (length entries)
  pub places : after ≡ before ++ places_of entries

-- a caller after its turns
abbrev pub AfterTurns : Caller → Caller → Type 0
AfterTurns old new = (new.turns ≡ old.turns)
    × ((seat : SeatView Added) → old.seat ≡ Some seat
    → IsSomeAnd new.seat (λ after. MakesTurns seat after old.places.items new.places.items))

-- each caller after its turns
pub record EachAfterTurns (old new : List Caller) : Type 0 where
  pub count : length new ≡ length old
  pub each : (k : ℕ) (caller : Caller)
      → k < length old
      → AfterTurns (slice_index_or old k caller) (slice_index_or new k caller)

-- the caller was told as many places as it has turns
abbrev pub HasAllTurns : Caller → Type 0
HasAllTurns caller = length caller.places.items ≡ caller.turns

-- a seat that knows no entry, and has only its own number
abbrev pub IsBlankSeat : SeatView Added → Type 0
IsBlankSeat seat = (seat.own ≡ []) × (seat.joined ≡ []) × (seat.spare ≡ [])

-- a caller with such a seat, which is to make so many turns, and has made none
abbrev pub IsNewCaller : ℕ → Caller → Type 0
IsNewCaller turns caller =
    (caller.turns ≡ turns) × (caller.places.items ≡ []) × IsSomeAnd caller.seat IsBlankSeat

-- the entries are those of so many turns, in their order
abbrev pub AreTurns : ℕ → List (ℕ × Added) → Type 0
AreTurns turns entries = amounts_of entries ≡ range_with_len 0 turns

-- a seat with no spare number, each of whose numbers made so many turns
pub record KnowsTurns (turns : ℕ) (seat : SeatView Added) : Type 0 where
  pub own : AreTurns turns seat.own
  pub joined : AllByRecursion (λ known. AreTurns turns known.1) seat.joined
  pub spare : seat.spare ≡ []

-- the caller has such a seat
abbrev pub HasKnownTurns : ℕ → Caller → Type 0
HasKnownTurns turns caller = IsSomeAnd caller.seat (KnowsTurns turns)
