-- What a contract sees of an account behind its lock.
use Rattle.std.specs.Prelude.{◌≡◌, ℕ, List, [], Option, Some}
use Rattle.std.specs.List.{AllByRecursion}
use Rattle.pw_types.specs.declared.era.Era.{Era}
use Rattle.turn_lock.specs.Seats.{LockId, SeatView, HasEachNumber, first_seat, new_seat}
use Rattle.platform_lock.specs.Seats.{AccountView}
use Rattle.user_state.specs.declared.state.UserState.{UserState}
use Rattle.home_seats.specs.Seats.{LockSeen}
use Rattle.home_locks.specs.declared.account.Entry.{Entry}
use Rattle.turn_meaning.specs.declared.taken.TurnTaken.{TurnTaken}

-- an account's lock, with a seat of it
pub record AccountSeen : Type 0 where
  pub at : LockSeen
  pub client : SeatView (Entry TurnTaken)

abbrev pub account_seen : LockId → Option AccountView → UserState → Era → SeatView (Entry TurnTaken) → AccountSeen
account_seen lock seat state era client =
    record { at = record { lock = lock; seat = seat; state = state; era = era }; client = client }

-- The lock of the account with this number, for so many clients: it was made with the account's seat of the platform's
-- lock, which has the account's number alone.
pub record IsAccountLock (shared : LockId) (era : Era) (clients account : ℕ) (at : LockSeen) : Type 0 where
  pub callers : at.lock.callers ≡ clients
  pub era_is : at.era ≡ era
  pub start : AccountView
  pub start_is : at.seat ≡ Some start
  pub start_of : start.seat ≡ record (new_seat shared account []) { own = start.seat.own }

-- a seat that is the lock's first one, with all its numbers
pub record IsFirstSeat (lock : LockId) (seat : SeatView (Entry TurnTaken)) : Type 0 where
  pub first : seat ≡ first_seat lock
  pub numbers : HasEachNumber seat

-- these are locks of accounts, whatever their numbers, each with its first seat
abbrev pub AreNewLocks : LockId → Era → ℕ → List AccountSeen → Type 0
AreNewLocks shared era clients accounts = AllByRecursion
    (λ seen. ((account : ℕ) × IsAccountLock shared era clients account seen.at) × IsFirstSeat seen.at.lock seen.client)
    accounts
