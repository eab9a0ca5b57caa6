-- What the beginning of a home finds and leaves.
use Rattle.std.specs.Prelude.{◌≡◌, ◌⊎◌, ◌<◌, ℕ, max, true, List, length, All, Option, Err}
use Rattle.fault_count.specs.Causes.{HasCause}
use Rattle.board_model.specs.Disk.{Disk, Image, Goes, Leaves}
use Rattle.cabinet.specs.Edits.{Agrees}
use Rattle.staged_file.specs.Staged.{Kept}
use Rattle.platform_core.specs.Standing.{IsTold}
use Rattle.cabinet.specs.Opening.{Opened}
use Rattle.platform_core.specs.Held.{names_of, most_of}
use Rattle.platform_core.specs.Opening.{AreTooMany}
use Rattle.platform_core.specs.Records.{Shows}
use Rattle.platform_core.specs.declared.fault.OpenFault.{OpenFault}
use Rattle.platform_core.specs.declared.fault.OpenFault.TheVariants as opens
use Rattle.share_api.specs.Contents.{Bytes}
use Rattle.board_device.specs.Device.{accounts_of, board_of, platform_of, refused_of}
use Rattle.board_device.specs.Standing.{IsOpened, contents_of}
use Rattle.board_device.specs.declared.device.BoardDevice.{BoardDevice}
use Rattle.pw_types.specs.declared.era.Era.{Era}
use Rattle.request_turns.specs.Named.{are_apart}
use Rattle.share_api.specs.Seen.{HasFailed, ShareSeen}
use Rattle.share_api.specs.declared.step.Step.{Step}
use Rattle.stored_home.specs.declared.fault.StoreFault.{StoreFault}
use Rattle.turn_lock.specs.Lists.{entries_of}
use Rattle.turn_lock.specs.Seats.{LockId, SeatView, Recalls}
use Rattle.platform_lock.specs.Devices.{IsServed, account_of}
use Rattle.board_device.specs.Device.{era_of, seen_by}
use Rattle.board_device.specs.Standing.{StandsTo}
use Rattle.home_seats.specs.Seats.{LockSeen}
use Rattle.home_opening.specs.Opened.{AreOpenedFrom, AreOpeningSteps, IsOwner, OpensAt, told_fault}
use Rattle.home_opening.specs.declared.opening.Opening.{Opening}
use Rattle.user_home.specs.Ending.{IsIdle}
use Rattle.home_opening.specs.declared.fault.HomeFault.{HomeFault}
use Rattle.home_opening.specs.declared.fault.HomeFault.TheVariants as faults

-- the fault of a platform as that of a home
abbrev pub told_open_fault : OpenFault → HomeFault
told_open_fault opens.Failed = faults.Failed
told_open_fault (opens.TooMany accounts) = faults.TooMany accounts
told_open_fault opens.NoMemory = faults.NoMemory

module _ {B : Type 0} (disk_of : B → Disk) (faults_of : B → ℕ) where
  -- The device is that of the board: its accounts are those that are named and those that were found. Where the board
  -- tells its content it is opened, and each image shows what its accounts have. No file but temporary ones changed.
  pub record OpensDevice (board : B) (named : List Bytes) (device : BoardDevice B) : Type 0 where
    pub opened : Opened (disk_of board) (disk_of (board_of device)) named (most_of (platform_of device))
        (names_of (platform_of device)) (accounts_of device)
    pub right : IsTold (disk_of board) → Agrees (disk_of board) → IsOpened disk_of device
    pub shown : IsTold (disk_of board) → Agrees (disk_of board)
        → (image : Image) → (disk_of (board_of device)).may_leave image
        → Shows (accounts_of device) image (contents_of disk_of device)
    pub any_moment : Leaves (disk_of board) (disk_of (board_of device)) Kept
    pub kept : Goes (disk_of board) (disk_of (board_of device)) Kept
    pub quiet : faults_of (board_of device) ≡ faults_of board
    pub refused : refused_of device ≡ 0

  -- There is no device: the board failed, and its count rose, or there are too many accounts, or there was no memory.
  -- No file but temporary ones changed.
  pub record IsUnopened (board : B) (named : List Bytes) (fault : HomeFault) (left : B) : Type 0 where
    pub many : (accounts : ℕ) → fault ≡ faults.TooMany accounts → AreTooMany (disk_of board) named accounts
    pub whole : (name : Bytes) → fault ≡ faults.Damaged name → ⊥
    pub any_moment : Leaves (disk_of board) (disk_of left) Kept
    pub kept : Goes (disk_of board) (disk_of left) Kept
    pub cause : HasCause (faults_of board) (faults_of left) (fault ≡ faults.Failed)

  -- A home was begun over the board: its accounts are those of the device, in order, each opened so and behind its
  -- lock.
  pub record IsBegun (board : B) (named : List Bytes) (opening : Opening) (device : BoardDevice B) (shared : LockId)
      (names : List Bytes) (locks : List LockSeen) (idle : Option (SeatView Step)) : Type 0 where
    pub device_is : OpensDevice board named device
    pub era_is : era_of device ≡ opening.era
    pub names_are : names ≡ accounts_of device
    pub apart : are_apart names ≡ true
    pub opened : AreOpenedFrom (seen_by faults_of device) shared opening 0 names locks
    pub idle_is : IsIdle shared (length locks) idle

  -- The lock of this device was closed with this seat: a chain of steps led from the device to the one whose board is
  -- left, and what the seat knew of each number are that account's steps in the chain. No step is of another number.
  pub record Closes (device : BoardDevice B) (seat : SeatView Step) (left : B) : Type 0 where
    pub last : BoardDevice B
    pub chain : List Step
    pub served : IsServed (seen_by faults_of) (StandsTo disk_of) device last chain
    pub left_is : left ≡ board_of last
    pub entries : Recalls account_of chain seat
    pub callers : All (λ step. account_of step < seat.lock.callers) chain

  -- An account was refused for this fault of its store, by its steps in the chain.
  pub record IsRefusedBy (device : BoardDevice B) (shared : LockId) (opening : Opening) (chain : List Step)
      (fault : HomeFault) : Type 0 where
    pub account : ℕ
    pub name : Bytes
    pub owner : IsOwner (seen_by faults_of device) account name
    pub store : StoreFault
    pub opens : OpensAt (seen_by faults_of device) shared opening account name
        (entries_of account_of account chain) (Err store)
    pub fault_is : fault ≡ told_fault store

  -- An account of the device was refused, or there was no memory. The board has all steps of the accounts that were
  -- tried by then: of each account the chain has no step, or those of an opening of it. A home fails only where one of
  -- these steps did.
  pub record StopsAt (device : BoardDevice B) (opening : Opening) (fault : HomeFault) (left : B) : Type 0 where
    pub last : BoardDevice B
    pub shared : LockId
    pub chain : List Step
    pub served : IsServed (seen_by faults_of) (StandsTo disk_of) device last chain
    pub left_is : left ≡ board_of last
    pub openings : (account : ℕ) → AreOpeningSteps (seen_by faults_of device) shared opening account
        (entries_of account_of account chain)
    pub cause : (fault ≡ faults.NoMemory) ⊎ IsRefusedBy device shared opening chain fault
    pub failed : fault ≡ faults.Failed → HasFailed chain

  -- the board's device was opened, and its accounts weren't
  pub record StopsOpening (board : B) (named : List Bytes) (opening : Opening) (fault : HomeFault) (left : B)
      : Type 0 where
    pub device : BoardDevice B
    pub device_is : OpensDevice board named device
    pub era_is : era_of device ≡ opening.era
    pub stops : StopsAt device opening fault left

  -- no home was begun, and this board is left
  abbrev pub IsNotBegun : B → List Bytes → Opening → HomeFault → B → Type 0
  IsNotBegun board named opening fault left =
      IsUnopened board named fault left ⊎ StopsOpening board named opening fault left

-- The platform's lock has a number for each account, and one where there is none.
abbrev pub callers_for : ℕ → ℕ
callers_for accounts = max accounts 1
