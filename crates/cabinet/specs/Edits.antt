-- What changes of records leave, whenever a crash comes.
use Rattle.std.specs.Prelude.{◌≡◌, ◌⊎◌, ℕ, ◌≤◌, List, [], ◌∷◌, Option, Some, length, take}
use Rattle.board_model.specs.Files.{with_content}
use Rattle.board_model.specs.Disk.{Image, Disk, Effect, Follows, Leaves, Goes}
use Rattle.staged_file.specs.Staged.{Kept}

-- one change: a file has this content, or is absent; or the chip has these words
pub data Edit : Type 0 where
  File : List ℕ → Option (List ℕ) → Edit
  Words : List ℕ → Edit

abbrev pub edited : Image → Edit → Image
edited i (File name content) = record { files = with_content i.files name content; words = i.words }
edited i (Words words) = record { files = i.files; words = words }

-- the image after these edits, the first of them first
abbrev pub after : List Edit → Image → Image
after [] i = i
after (edit ∷ edits) i = after edits (edited i edit)

-- The image is the old one after these edits. Temporary files don't count; all others, records or not, do.
abbrev pub After : List Edit → Effect
After edits old new = Kept (after edits old) new

-- At some n: the first n of the edits are done and the others aren't.
pub record AfterSome (edits : List Edit) (old new : Image) : Type 0 where
  pub count : ℕ
  pub within : count ≤ length edits
  pub are : After (take count edits) old new

-- Once the directory is synced each image has what is there now.
abbrev pub Agrees : Disk → Type 0
Agrees disk = (now i : Image) → disk.now ≡ Some now → disk.once_synced i → Kept now i

-- Each image has what is there now.
abbrev pub IsSettled : Disk → Type 0
IsSettled disk = (now i : Image) → disk.now ≡ Some now → disk.may_leave i → Kept now i

-- A list of changes, one after the other, all of which were Ok where `ok` is so.
pub record Edits (old new : Disk) (edits : List Edit) (ok : Type 0) : Type 0 where
  -- each image since the start is one of the start after some of them
  pub any_moment : Leaves old new (AfterSome edits)
  -- at their end, each image is one of the start after all of them
  pub durable : ok → Follows (After edits) old.may_leave new.may_leave
  pub done : ok → Goes old new (After edits)

-- One change, which is done whole or not at all, also for what is read afterwards.
pub record Changes (old new : Disk) (edit : Edit) (ok : Type 0) : Type 0 where
  pub edits : Edits old new (edit ∷ []) ok
  pub done_or_not : Goes old new (After []) ⊎ Goes old new (After (edit ∷ []))
  -- what a later sync makes certain stays what is there now
  pub agrees : Agrees old → Agrees new
