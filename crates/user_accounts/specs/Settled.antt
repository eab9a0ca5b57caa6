-- What is there of a board's users once their accounts' locks are closed.
use Rattle.std.specs.Prelude.{List}
use Rattle.board_model.specs.Disk.{Disk}
use Rattle.board_device.specs.Device.{era_of}
use Rattle.board_device.specs.declared.device.BoardDevice.{BoardDevice}
use Rattle.home_locks.specs.Accounts.{Started}
use Rattle.home_locks.specs.Settled.{AreMoved, Settles}
use Rattle.home_locks.specs.declared.account.Entry.{Entry}
use Rattle.share_api.specs.declared.step.Step.{Step}
use Rattle.turn_meaning.specs.Meanings.{user_rules}
use Rattle.turn_meaning.specs.declared.taken.TurnTaken.{TurnTaken}
use Rattle.user_state.specs.declared.state.UserState.{UserState}
use Rattle.user_accounts.specs.Parts.{parts_of, part_images_now, part_images_since}

-- The accounts' books settle (`Settles`): over what the first device had, what the last one has, what the images show
-- that a crash since the first might have left, and what those show that a crash may leave of the last one.
abbrev pub UsersSettle : {B : Type 0} → (B → Disk) → BoardDevice B → BoardDevice B → List (Started UserState)
    → List Step → List (List (Entry TurnTaken)) → Type 0
UsersSettle disk_of first last starts chain books =
    Settles (user_rules (era_of first)) starts (parts_of disk_of first) (parts_of disk_of last)
    (part_images_since disk_of first last) (part_images_now disk_of last) chain books

-- Each entry of the accounts' books moved its account by its own device steps, from these starts on (`AreMoved`).
abbrev pub UsersMoved : {B : Type 0} → BoardDevice B → List (Started UserState) → List Step
    → List (List (Entry TurnTaken)) → Type 0
UsersMoved first starts chain books = AreMoved (user_rules (era_of first)).moves chain 0 starts books
