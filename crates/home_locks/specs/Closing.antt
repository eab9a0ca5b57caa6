-- The locks of all accounts, when they are closed.
use Rattle.std.specs.Prelude.{◌≡◌, ℕ, List, [], ◌∷◌, ◌++◌, map, Option, None, Some}
use Rattle.std.specs.List.{AllByRecursion}
use Rattle.home_image.specs.Settled.{BookStands}
use Rattle.pw_types.specs.declared.era.Era.{Era}
use Rattle.share_api.specs.declared.step.Step.{Step}
use Rattle.turn_lock.specs.Seats.{SeatView, LockId, HasEachNumber, Recalls, joined_seat}
use Rattle.platform_lock.specs.Seats.{AccountView}
use Rattle.home_locks.specs.Meanings.{Rules, client_of, meaning_of}
use Rattle.home_locks.specs.Moves.{BookMoves}
use Rattle.home_locks.specs.Accounts.{Started}
use Rattle.home_locks.specs.declared.account.Entry.{Entry}

-- An account's lock with a seat that has all its numbers. The account was opened in this era, with a seat of the
-- platform's lock, which is `shared`, that has no other account's number.
pub record IsWhole {T : Type 0} (era : Era) (shared lock : LockId) (first : Option AccountView) (opened : Era)
    (seat : SeatView (Entry T)) : Type 0 where
  pub of : seat.lock ≡ lock
  pub numbers : HasEachNumber seat
  pub era_is : opened ≡ era
  pub start : AccountView
  pub start_is : first ≡ Some start
  pub start_of : start.seat.lock ≡ shared
  pub joined : start.seat.joined ≡ []
  pub spare : start.seat.spare ≡ []

-- the account's number
abbrev pub account_at : Option AccountView → ℕ
account_at None = 0
account_at (Some own) = own.seat.caller

-- An account at the end: its seat of the platform's lock, the seat of all its clients, its states at first and now,
-- and its book. `early` are the steps that its seat knew at first, and `own` those of its book, each with its place.
pub record End (T X : Type 0) : Type 0 where
  pub seat : SeatView Step
  pub client : SeatView (Entry T)
  pub early : List (ℕ × Step)
  pub own : List (ℕ × Step)
  pub start : X
  pub after : X
  pub book : List (Entry T)

module _ {T X : Type 0} where
  -- the account at first
  abbrev pub started_of : End T X → Started X
  started_of end = record { state = end.start; own = end.early }

  -- what an account's seat knows
  abbrev pub known_of : End T X → ℕ × List (ℕ × Step)
  known_of end = (end.seat.caller, end.seat.own)

  -- the seat of the platform's lock that knows what the accounts' seats knew
  abbrev pub KnowsEnds : LockId → List (End T X) → Option (SeatView Step) → Type 0
  KnowsEnds shared ends None = ends ≡ []
  KnowsEnds shared ends (Some seat) = (seat.lock ≡ shared)
      × ((seat.caller, seat.own) ∷ seat.joined ≡ map known_of ends)
      × (seat.spare ≡ [])

module _ {C D U T X : Type 0} (rules : Rules C D U T X) where
  -- the account's seat knows the steps that it knew at first, and behind them those of the book
  pub record EndStands (end : End T X) : Type 0 where
    pub seat_is : end.seat.own ≡ end.early ++ end.own
    pub book_stands : BookStands (meaning_of rules) end.start end.after end.own end.book
    pub moves : BookMoves rules.moves end.start end.own end.book end.after

  -- accounts that had these numbers, clients and starts were closed, and their books put behind others
  pub record Closes (shared : LockId) (accounts : List ℕ) (clients : List (SeatView (Entry T)))
      (starts : List (Started X)) (old new : List (List (Entry T))) (seat : Option (SeatView Step)) : Type 0 where
    pub ends : List (End T X)
    pub accounts_are : accounts ≡ map (λ end. end.seat.caller) ends
    pub clients_are : clients ≡ map (λ end. end.client) ends
    pub starts_are : starts ≡ map started_of ends
    pub books_are : new ≡ old ++ map (λ end. end.book) ends
    pub stand : AllByRecursion EndStands ends
    pub recalled : AllByRecursion (λ end. Recalls client_of end.book end.client) ends
    pub knows : KnowsEnds shared ends seat

-- the seat, joined to the first one where there is one
abbrev pub JoinsOn : {E : Type 0} → Option (SeatView E) → SeatView E → SeatView E → Type 0
JoinsOn None own whole = whole ≡ own
JoinsOn (Some seat) own whole = whole ≡ joined_seat seat own

module _ {T : Type 0} where
  -- what each account's clients know of their turns are their entries in the account's book, at their places
  abbrev pub AreRecalled : List (SeatView (Entry T)) → List (List (Entry T)) → Type 0
  AreRecalled [] [] = Unit {0}
  AreRecalled [] (book ∷ books) = ⊥
  AreRecalled (client ∷ clients) [] = ⊥
  AreRecalled (client ∷ clients) (book ∷ books) = Recalls client_of book client × AreRecalled clients books
