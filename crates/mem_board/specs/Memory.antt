-- What a board in memory keeps, and how a call of it goes.
use Rattle.std.specs.Prelude.{◌≡◌, ◌≢◌, ◌⊎◌, ◌↔◌, ℕ, ◌+◌, ◌-◌, ◌^◌, min, List, [], ◌∷◌, Some}
use Rattle.fault_count.specs.Causes.{Rose}
use Rattle.board_model.specs.Disk.{Image, Disk}
use Rattle.mem_board.specs.Images.{disk_of}
use Rattle.mem_board.specs.Content.{image_of}
use Rattle.mem_board.specs.Fails.{listed_at}
use Rattle.mem_board.specs.declared.board.MemBoard.{MemBoard}
use Rattle.mem_board.specs.declared.change.Call.{Call}
use Rattle.mem_board.specs.declared.change.Change.{Change}
use Rattle.mem_board.specs.declared.change.Outcome.{Outcome}
use Rattle.mem_board.specs.declared.change.Outcome.TheVariants.{Done}
use Rattle.mem_board.specs.declared.fail.Fail.{Fail}

pub record Memory : Type 0 where
  -- what it began with
  pub first : Image
  -- the calls that changed something, the newest first
  pub calls : List Call
  -- the calls that are to fail
  pub fails : List Fail
  -- how many calls were made
  pub made : ℕ
  -- how often there was no memory to store a call
  pub starved : ℕ

abbrev pub memory_of : MemBoard → Memory
memory_of board = record {
  first = image_of board.first;
  calls = board.calls.items;
  fails = board.fails.items;
  made = board.made;
  starved = board.starved;
}

-- how often a call of the board has failed
abbrev pub faults_of : MemBoard → ℕ
faults_of board = board.faults

-- a board that has had no call
abbrev pub started : Image → List Fail → Memory
started first fails =
    record { first = first; calls = []; fails = fails; made = 0; starved = 0 }

-- the board as the trait sees it
abbrev pub disk : Memory → Disk
disk m = disk_of m.first m.calls

-- the board has this image, a crash leaves no other, and no tick has passed
pub record HasOnly (disk : Disk) (image : Image) : Type 0 where
  pub now : disk.now ≡ Some image
  pub left : (i : Image) → disk.may_leave i → i ≡ image
  pub ticks : disk.ticks ≡ 0

-- the number of the next call, and how it ends
abbrev pub next_number : Memory → ℕ
next_number m = min (m.made + 1) (2 ^ 64 - 1)

abbrev pub next_outcome : Memory → Outcome
next_outcome m = listed_at m.fails (next_number m)

-- the list names the next call
abbrev pub IsListed : Memory → Type 0
IsListed m = next_outcome m ≢ Done

-- what stays and what counts in each call
pub record Counts (old new : Memory) : Type 0 where
  pub first : new.first ≡ old.first
  pub fails : new.fails ≡ old.fails
  pub made : new.made ≡ next_number old

-- a call that changes nothing: it fails exactly where the list names it
pub record Looks (old new : Memory) (Failing : Type 0) : Type 0 where
  pub counts : Counts old new
  pub calls : new.calls ≡ old.calls
  pub starved : new.starved ≡ old.starved
  pub failed : Failing ↔ IsListed old

-- the call is stored, and fails exactly where the list names it
pub record IsStored (change : Change) (old new : Memory) (Failing : Type 0) : Type 0 where
  pub calls : new.calls ≡ record { change = change; outcome = next_outcome old } ∷ old.calls
  pub starved : new.starved ≡ old.starved
  pub failed : Failing ↔ IsListed old

-- there is no memory to store the call, so it fails, and its change isn't done
pub record IsStarved (old new : Memory) (Failing : Type 0) : Type 0 where
  pub calls : new.calls ≡ old.calls
  pub starved : Rose old.starved new.starved
  pub failed : Failing

-- a call that changes something
pub record Changes (change : Change) (old new : Memory) (Failing : Type 0) : Type 0 where
  pub counts : Counts old new
  pub ends : IsStored change old new Failing ⊎ IsStarved old new Failing

abbrev pub disk_at : MemBoard → Disk
disk_at board = disk (memory_of board)
