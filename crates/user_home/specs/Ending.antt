-- A home as it is when it ends.
use Rattle.std.specs.Prelude.{◌≡◌, ℕ, ◌+◌, ◌<◌, ◌≤◌, List, [], ◌∷◌, length, Option, None, Some}
use Rattle.pw_types.specs.declared.era.Era.{Era}
use Rattle.share_api.specs.declared.step.Step.{Step}
use Rattle.turn_lock.specs.Seats.{LockId, SeatView, HasEachNumber}
use Rattle.home_seats.specs.Seats.{LockSeen}
use Rattle.home_opening.specs.Locks.{IsAccountLock}

-- these are the locks of the accounts from this number on
abbrev pub AreAccountLocks : LockId → Era → ℕ → ℕ → List LockSeen → Type 0
AreAccountLocks shared era clients account [] = Unit {0}
AreAccountLocks shared era clients account (at ∷ locks) =
    IsAccountLock shared era clients account at × AreAccountLocks shared era clients (account + 1) locks

-- Where there are accounts, the platform's lock has a number for each. Else a seat of it with all its numbers is there.
abbrev pub IsIdle : LockId → ℕ → Option (SeatView Step) → Type 0
IsIdle shared accounts None = (0 < accounts) × (shared.callers ≡ accounts)
IsIdle shared accounts (Some seat) = (accounts ≡ 0) × (seat.lock ≡ shared) × HasEachNumber seat

-- an empty list with room for so many
pub record IsRoomFor {X : Type 0} (count : ℕ) (items : List X) (capacity : ℕ) : Type 0 where
  pub empty : items ≡ []
  pub room : count ≤ capacity

-- The locks are those of the accounts in order, for so many clients, and all numbers of the platform's lock are there.
pub record CanEnd (shared : LockId) (era : Era) (locks : List LockSeen) (idle : Option (SeatView Step)) : Type 0 where
  pub clients : ℕ
  pub of : AreAccountLocks shared era clients 0 locks
  pub idle_is : IsIdle shared (length locks) idle
