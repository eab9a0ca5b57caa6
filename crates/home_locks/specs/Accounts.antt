-- What the value behind an account's lock is to its book.
use Rattle.std.specs.Prelude.{◌≡◌, ℕ, ◌%◌, ◌^◌, List, [], ◌∷◌, ◌++◌, length, Option, None, Some, IsSomeAnd}
use Rattle.home_image.specs.Settled.{BookStands}
use Rattle.share_api.specs.Contents.{Bytes}
use Rattle.share_api.specs.declared.step.Step.{Step}
use Rattle.turn_lock.specs.Seats.{SeatView, LockId}
use Rattle.platform_lock.specs.Devices.{DeviceSeen, HasAccount, owner_at}
use Rattle.platform_lock.specs.Seats.{AccountView}
use Rattle.home_locks.specs.Meanings.{Rules, meaning_of}
use Rattle.home_locks.specs.Moves.{BookMoves}
use Rattle.home_locks.specs.declared.account.Entry.{Entry}

-- which states a turn can begin with over the share of an account of this name, where the tree of leaves is lost or not
abbrev pub Readiness : Type 0 → Type 1
Readiness X = Option Bytes → Option (Bytes × Bytes) → X → Type 0

-- a turn can begin with the second state wherever one can with the first
abbrev pub StaysReady : {X : Type 0} → Readiness X → X → X → Type 0
StaysReady ready before after = (owner : Option Bytes) (lost : Option (Bytes × Bytes))
    → ready owner lost before → ready owner lost after

module _ {C D U T X : Type 0} (rules : Rules C D U T X) (ready : Readiness X) where
  -- The account has the seat of the platform's lock that it had at first, which knows behind the steps that it knew
  -- then those of all turns in the book. Each turn moved the state by its own.
  pub record AccountStands (first_seat : Option AccountView) (before : X) (seat_now : Option AccountView) (after : X)
      (book : List (Entry T)) : Type 0 where
    pub start : AccountView
    pub seat : AccountView
    pub start_is : first_seat ≡ Some start
    pub seat_is : seat_now ≡ Some seat
    pub same : seat.seat ≡ record start.seat { own = seat.seat.own }
    pub own : List (ℕ × Step)
    pub own_is : seat.seat.own ≡ start.seat.own ++ own
    pub book_stands : BookStands (meaning_of rules) before after own book
    pub moves : BookMoves rules.moves before own book after
    pub stays_ready : StaysReady ready before after

-- An account when its lock is made: its state, and the device steps that it has made by then, which open it, each with
-- its place.
pub record Started (X : Type 0) : Type 0 where
  pub state : X
  pub own : List (ℕ × Step)

-- the steps are those that the account's first seat knows
abbrev pub started_at : {X : Type 0} → Option AccountView → X → Started X
started_at None state = record { state = state; own = [] }
started_at (Some own) state = record { state = state; own = own.seat.own }

-- The account was given a seat of this lock, whose number is an account's of the platform, and a state with which a
-- turn of this account can begin.
abbrev pub IsPlaced : {X : Type 0} → Readiness X → DeviceSeen → LockId → Option AccountView → X → Type 0
IsPlaced ready device lock first state = IsSomeAnd first (λ start. (start.seat.lock ≡ lock)
    × HasAccount device start.seat.caller × ready (owner_at device start.seat.caller) device.lost state)

-- The client's seat has one entry more: the turn that was asked, of which this was told. Its place in the book is the
-- receipt's modulo 2^64.
pub record AddsTurn {Q T A : Type 0} (tells : Q → T → A → Type 0) (old new : SeatView (Entry T)) (asked : Q)
    (told : A) (reduced : ℕ) : Type 0 where
  pub place : ℕ
  pub entry : Entry T
  pub client : entry.client ≡ old.caller
  pub turn : tells asked entry.turn told
  pub place_is : reduced ≡ place % 2 ^ 64
  pub own : new ≡ record old { own = old.own ++ (place, entry) ∷ [] }

-- the book has this entry at this place
pub record StandsAt {E : Type 0} (book : List E) (place : ℕ) (entry : E) : Type 0 where
  pub before : List E
  pub after : List E
  pub book_is : book ≡ before ++ entry ∷ after
  pub place_is : place ≡ length before
