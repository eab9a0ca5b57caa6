-- What a board has, what a crash may leave of it, and how a call changes both.
use Rattle.std.specs.Prelude.{◌≡◌, ◌≢◌, ◌⊎◌, ℕ, ◌≤◌, ◌<◌, List, Option, None, IfSome}
use Rattle.std.specs.Option.{IsSomeAnd}
use Rattle.std.specs.FinMap.{get, insert, remove}
use Rattle.fault_count.specs.Told.{Becomes}
use Rattle.board_model.specs.Files.{Files, renamed}

-- what a board holds, or what is found after a crash
pub record Image : Type 0 where
  pub files : Files
  -- the 256 bytes of the chip store
  pub words : List ℕ

-- a board at a moment
pub record Disk : Type 1 where
  -- what is there, where the board tells it
  pub now : Option Image
  -- what a crash may leave
  pub may_leave : Image → Type 0
  -- what a crash may leave once the directory is synced
  pub once_synced : Image → Type 0
  -- how many calls have changed something
  pub ticks : ℕ
  -- what a crash at a moment from that tick on might have left
  pub left_since : ℕ → Image → Type 0

-- a board that tells nothing
abbrev pub untold : Disk
untold = record {
  now = None;
  may_leave = λ i. ⊥;
  once_synced = λ i. ⊥;
  ticks = 0;
  left_since = λ t i. ⊥;
}

-- what calls do to an image

abbrev pub Effect : Type 1
Effect = Image → Image → Type 0

abbrev pub Same : Effect
Same old new = new ≡ old

-- one file may hold any bytes or be absent
pub record SameBut (name : List ℕ) (old new : Image) : Type 0 where
  pub words : new.words ≡ old.words
  pub others : (q : List ℕ) → q ≢ name → get new.files q ≡ get old.files q

-- one file has these bytes
abbrev pub Written : List ℕ → List ℕ → Effect
Written name bytes old new =
    new ≡ record { files = insert old.files name bytes; words = old.words }

abbrev pub Renamed : List ℕ → List ℕ → Effect
Renamed from to old new =
    new ≡ record { files = renamed old.files from to; words = old.words }

abbrev pub Removed : List ℕ → Effect
Removed name old new =
    new ≡ record { files = remove old.files name; words = old.words }

abbrev pub Stored : List ℕ → Effect
Stored words old new = new ≡ record { files = old.files; words = words }

-- done whole or not at all
abbrev pub Maybe : Effect → Effect
Maybe R old new = (new ≡ old) ⊎ R old new

-- how a call goes on from one moment to a later one

-- each image after is one from before with the change R
abbrev pub Follows : Effect → (Image → Type 0) → (Image → Type 0) → Type 0
Follows R before after = (i : Image) → after i → (d : Image) × before d × R d i

-- At each moment from `old` to `new` a crash may leave an image from `old` with the change R,
-- and nothing else.
pub record Leaves (old new : Disk) (R : Effect) : Type 0 where
  pub later : old.ticks ≤ new.ticks
  pub each : Follows R old.may_leave (new.left_since old.ticks)
  pub here : Follows R old.may_leave new.may_leave
  -- nor is there more since an earlier moment
  pub before : (t : ℕ) (i : Image) → t ≤ old.ticks → new.left_since t i
      → old.left_since t i ⊎ ((d : Image) × old.may_leave d × R d i)
  -- what might have been left is remembered
  pub keeps : (t : ℕ) (i : Image) → t ≤ old.ticks → old.left_since t i → new.left_since t i

-- The content goes by the change R, and so does each image once the directory is synced.
pub record Goes (old new : Disk) (R : Effect) : Type 0 where
  pub now : Becomes old.now new.now R
  pub synced : Follows R old.once_synced new.once_synced

-- the change R is done or isn't
abbrev pub GoesOrNot : Disk → Disk → Effect → Type 0
GoesOrNot old new R = Goes old new Same ⊎ Goes old new R

-- the content stays, and no image is new
pub record Unchanged (old new : Disk) : Type 0 where
  pub now : new.now ≡ old.now
  pub goes : Goes old new Same
  pub crash : Leaves old new Same

-- a tick has passed, where the board tells its content
abbrev pub Ticked : Disk → Disk → Type 0
Ticked old new = IfSome old.now (λ _. old.ticks < new.ticks)

-- the image has under the name what is there now
abbrev pub IsWholeIn : List ℕ → Option Image → Image → Type 0
IsWholeIn name now i = IsSomeAnd now (λ m. get i.files name ≡ get m.files name)
