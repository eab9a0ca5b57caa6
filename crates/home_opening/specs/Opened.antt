-- Accounts that were opened, and why one couldn't be.
use Rattle.std.specs.Prelude.{◌≡◌, ◌⊎◌, ℕ, ◌+◌, ◌^◌, ◌≤◌, ◌<◌, List, [], ◌∷◌, ◌++◌, codes, Some, Result, Ok, Err, IsTrue}
use Rattle.std.specs.List.{AllByRecursion}
use Rattle.hmac_sha.specs.Hmac.{hmac}
use Rattle.home_names.specs.Names.{is_account_name}
use Rattle.random_values.specs.Stretches.{Place, begun}
use Rattle.share_api.specs.Contents.{Bytes}
use Rattle.share_api.specs.Seen.{ShareSeen}
use Rattle.share_api.specs.declared.step.Step.{Step}
use Rattle.stored_home.specs.declared.fault.StoreFault.{StoreFault}
use Rattle.stored_home.specs.declared.fault.StoreFault.TheVariants as stores
use Rattle.turn_lock.specs.Seats.{LockId, SeatView, new_seat}
use Rattle.platform_lock.specs.Devices.{DeviceSeen, HasAccount, owner_at}
use Rattle.platform_lock.specs.Seats.{new_share, seen_of}
use Rattle.user_state.specs.declared.state.UserState.{UserState}
use Rattle.user_opening.specs.Opens.{OpensUser}
use Rattle.home_seats.specs.Seats.{LockSeen}
use Rattle.home_opening.specs.Locks.{AccountSeen, IsAccountLock}
use Rattle.home_opening.specs.Numbers.{KnowsFailure, KnowsSteps, known_by}
use Rattle.home_opening.specs.declared.opening.Opening.{Opening}
use Rattle.home_opening.specs.declared.fault.HomeFault.{HomeFault}
use Rattle.home_opening.specs.declared.fault.HomeFault.TheVariants as faults

-- the device has this account, whose name is in its grammar
pub record IsOwner (device : DeviceSeen) (account : ℕ) (name : Bytes) : Type 0 where
  pub has : HasAccount device account
  pub owner : owner_at device account ≡ Some name
  pub plain : IsTrue (is_account_name name)

-- so it has all of these, from this number on
abbrev pub AreOwners : DeviceSeen → ℕ → List Bytes → Type 0
AreOwners device account [] = Unit {0}
AreOwners device account (name ∷ names) = IsOwner device account name × AreOwners device (account + 1) names

-- the opening is in the device's era, at a moment, with a cost from 1 to 16, and for at least one client
pub record CanBegin (device : DeviceSeen) (opening : Opening) : Type 0 where
  pub era_is : opening.era ≡ device.era
  pub least : 1 ≤ opening.cost
  pub most : opening.cost ≤ 16
  pub moment : opening.moment < 2 ^ 40
  pub clients : 0 < opening.clients

-- the generator of an account
abbrev pub generator_of : Bytes → Bytes → Place
generator_of entropy name = begun (hmac entropy (codes "account" ++ name))

-- an account's share before its first step
abbrev pub first_share : DeviceSeen → LockId → ℕ → ShareSeen
first_share device shared account =
    seen_of (new_share device (record { seat = new_seat shared account []; faults = 0; spare = 0 }))

-- The account was opened so by its first steps, which its seat knows.
pub record OpensAt (device : DeviceSeen) (shared : LockId) (opening : Opening) (account : ℕ) (name : Bytes)
    (own : List (ℕ × Step)) (result : Result UserState StoreFault) : Type 0 where
  pub after : ShareSeen
  pub own_is : after.own ≡ own
  pub opens : OpensUser (first_share device shared account) after name opening.cost opening.moment
      (generator_of opening.entropy.now name) result

-- the account of this number and name was opened, and put behind this lock
pub record IsOpenedAt (device : DeviceSeen) (shared : LockId) (opening : Opening) (account : ℕ) (name : Bytes)
    (at : LockSeen) : Type 0 where
  pub owner : IsOwner device account name
  pub of : IsAccountLock shared device.era opening.clients account at
  pub opened : OpensAt device shared opening account name of.start.seat.own (Ok at.state)

-- so were all of these, from this number on
abbrev pub AreOpenedFrom : DeviceSeen → LockId → Opening → ℕ → List Bytes → List LockSeen → Type 0
AreOpenedFrom device shared opening account [] [] = Unit {0}
AreOpenedFrom device shared opening account [] (at ∷ all) = ⊥
AreOpenedFrom device shared opening account (name ∷ names) [] = ⊥
AreOpenedFrom device shared opening account (name ∷ names) (at ∷ all) =
    IsOpenedAt device shared opening account name at × AreOpenedFrom device shared opening (account + 1) names all

-- each of these accounts was opened and put behind its lock, whatever its number and name
abbrev pub AreOpenedLocks : DeviceSeen → LockId → Opening → List AccountSeen → Type 0
AreOpenedLocks device shared opening accounts = AllByRecursion
    (λ seen. (account : ℕ) × (name : Bytes) × IsOpenedAt device shared opening account name seen.at) accounts

-- The account's steps are those of an opening of it, whatever came of that.
pub record IsTried (device : DeviceSeen) (shared : LockId) (opening : Opening) (account : ℕ)
    (own : List (ℕ × Step)) : Type 0 where
  pub name : Bytes
  pub owner : IsOwner device account name
  pub result : Result UserState StoreFault
  pub opens : OpensAt device shared opening account name own result

-- there is no step of the account, or these are those of its opening
abbrev pub AreOpeningSteps : DeviceSeen → LockId → Opening → ℕ → List (ℕ × Step) → Type 0
AreOpeningSteps device shared opening account own = (own ≡ []) ⊎ IsTried device shared opening account own

-- of each number the seat knows no step, or those of an opening of the account with this number
abbrev pub KnowsOpenings : DeviceSeen → LockId → Opening → SeatView Step → Type 0
KnowsOpenings device shared opening seat =
    AllByRecursion (λ known. AreOpeningSteps device shared opening known.0 known.1) (known_by seat)

-- a store's fault as that of a home
abbrev pub told_fault : StoreFault → HomeFault
told_fault stores.Failed = faults.Failed
told_fault (stores.Damaged name) = faults.Damaged name
told_fault stores.NoMemory = faults.NoMemory
told_fault (stores.TreeLost host chip) = faults.NoMemory

-- An account couldn't be opened for this fault of its store, and the seat knows its steps. Or there was no memory.
pub record IsRefusedAt (device : DeviceSeen) (shared : LockId) (opening : Opening) (fault : HomeFault)
    (seat : SeatView Step) : Type 0 where
  pub account : ℕ
  pub name : Bytes
  pub owner : IsOwner device account name
  pub own : List (ℕ × Step)
  pub known : KnowsSteps seat account own
  pub store : StoreFault
  pub opens : OpensAt device shared opening account name own (Err store)
  pub fault_is : fault ≡ told_fault store
  pub failed : store ≡ stores.Failed → KnowsFailure seat

abbrev pub IsRefused : DeviceSeen → LockId → Opening → HomeFault → SeatView Step → Type 0
IsRefused device shared opening fault seat =
    (fault ≡ faults.NoMemory) ⊎ IsRefusedAt device shared opening fault seat
