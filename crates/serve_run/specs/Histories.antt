-- What the books of a run say of the board that it was handed.
use Rattle.std.specs.Prelude.{◌≡◌, ◌≤◌, ◌<◌, ◌^◌, ℕ, List, length, Option, Some}
use Rattle.pw_types.specs.declared.era.Era.{Era}
use Rattle.account_machine.specs.User.{opened}
use Rattle.account_machine.specs.declared.user.Durable.{Durable}
use Rattle.account_machine.specs.declared.user.User.{User}
use Rattle.board_model.specs.Disk.{Image}
use Rattle.cabinet.specs.Edits.{Agrees}
use Rattle.image_path.specs.Showing.{ByAccount}
use Rattle.platform_core.specs.Records.{OthersKept}
use Rattle.platform_core.specs.Standing.{IsTold}
use Rattle.share_api.specs.Contents.{Bytes}
use Rattle.share_api.specs.declared.step.Step.{Step}
use Rattle.turn_lock.specs.Seats.{LockId, SeatView}
use Rattle.platform_lock.specs.Devices.{IsServed}
use Rattle.board_device.specs.Device.{accounts_of, board_of, era_of, seen_by}
use Rattle.board_device.specs.Standing.{IsOpened, StandsTo}
use Rattle.board_device.specs.declared.device.BoardDevice.{BoardDevice}
use Rattle.home_locks.specs.Accounts.{Started}
use Rattle.home_locks.specs.Settled.{AreAt, AreBooksClean, HaveEnded}
use Rattle.home_locks.specs.declared.account.Entry.{Entry}
use Rattle.turn_meaning.specs.Meanings.{HoldsPart, Part, user_rules}
use Rattle.turn_meaning.specs.declared.taken.TurnTaken.{TurnTaken}
use Rattle.user_accounts.specs.Parts.{parts_of, part_images_now, part_images_since}
use Rattle.user_accounts.specs.Settled.{UsersMoved, UsersSettle}
use Rattle.user_state.specs.declared.state.UserState.{UserState}
use Rattle.home_seats.specs.Seats.{LockSeen}
use Rattle.home_opening.specs.declared.opening.Opening.{Opening}
use Rattle.home_begin.specs.Begins.{IsBegun}
use Rattle.serve_run.specs.Outside.{Outside}
use Rattle.serve_run.specs.Says.{AccountsSay}

-- the users that are opened with these durable parts
abbrev pub users_of : (ℕ → Durable) → ℕ → ℕ → User
users_of durable moment account = opened (durable account) moment

module _ {B S K C : Type 0} (outside : Outside B S K C) where
  -- The premises: the board that was handed out told its content, and once its directory is synced each image has it;
  -- each account's records held this durable part; no two inputs coincide that are recorded of the images and the books;
  -- the accounts made fewer than 2^64 steps.
  pub record ArePremises (handed : B) (moment : ℕ) (first last : BoardDevice B) (chain : List Step)
      (names : List Bytes) (books : List (List (Entry TurnTaken))) (durable : ℕ → Durable) : Type 0 where
    pub told : IsTold (outside.disk handed)
    pub agrees : Agrees (outside.disk handed)
    pub held : (account : ℕ) → account < length names → HoldsPart (parts_of outside.disk first account) (durable account)
    pub clean : AreBooksClean (user_rules (era_of first)) (part_images_since outside.disk first last)
        (users_of durable moment) 0 books
    pub short : length chain < 2 ^ 64

  -- Each image that a crash since the start might have left is at one place of all books: it holds of each account the
  -- user after the turns up to there, or after the one in flight. At the end each book is a legal history from the user
  -- that was opened, and what is there holds the user after all its turns; so does each image that a crash may leave then.
  -- The chip's bytes and all files but the accounts' records and temporary ones stay in each image.
  pub record AreTold (moment : ℕ) (first last : BoardDevice B) (chain : List Step)
      (books : List (List (Entry TurnTaken))) (durable : ℕ → Durable) : Type 0 where
    pub at_one_place : (image : ByAccount Part) → part_images_since outside.disk first last image
        → (n : ℕ) × (n ≤ length chain)
        × AreAt (user_rules (era_of first)) n (users_of durable moment) image 0 books
    pub ended : HaveEnded (user_rules (era_of first)) (length chain) (users_of durable moment)
        (parts_of outside.disk last) 0 books
    pub lasts : (image : ByAccount Part) → part_images_now outside.disk last image
        → HaveEnded (user_rules (era_of first)) (length chain) (users_of durable moment) image 0 books
    pub others : (image i : Image) → (outside.disk (board_of first)).now ≡ Some image
        → (outside.disk (board_of last)).left_since (outside.disk (board_of first)).ticks i
        → OthersKept (accounts_of first) image i

  -- The home over this device was ended: the chain of all accounts' steps led to the board that is left, and each entry
  -- moved its account by its own stretch of the account's steps. Where the device's board told its content, one place is
  -- read in all books at each moment.
  abbrev pub IsEnded : BoardDevice B → List (Started UserState) → Option B → List (List (Entry TurnTaken)) → Type 0
  IsEnded first starts now books = (last : BoardDevice B) × (chain : List Step)
      × (now ≡ Some (board_of last))
      × IsServed (seen_by outside.board_faults) (StandsTo outside.disk) first last chain
      × UsersMoved first starts chain books
      × (IsOpened outside.disk first → UsersSettle outside.disk first last starts chain books)

  -- A home was begun over the board that was handed out, and the chain of all accounts' steps led to the board that is
  -- left. Each entry says what its own steps did, whatever the board tells. What it held before, the books and the images
  -- agree.
  pub record Histories (handed : B) (named : List Bytes) (opening : Opening) (now : Option B) (names : List Bytes)
      (books : List (List (Entry TurnTaken))) : Type 0 where
    pub first : BoardDevice B
    pub last : BoardDevice B
    pub chain : List Step
    pub shared : LockId
    pub locks : List LockSeen
    pub idle : Option (SeatView Step)
    pub begun : IsBegun outside.disk outside.board_faults handed named opening first shared names locks idle
    pub many : length books ≡ length names
    pub now_is : now ≡ Some (board_of last)
    pub served : IsServed (seen_by outside.board_faults) (StandsTo outside.disk) first last chain
    pub says : AccountsSay (seen_by outside.board_faults first) shared opening chain 0 names books
    pub right : (durable : ℕ → Durable)
        → ArePremises handed opening.moment first last chain names books durable
        → AreTold opening.moment first last chain books durable
