-- The images of a board in memory, by the calls that it has had, the newest first.
use Rattle.std.specs.Prelude.{◌≡◌, ◌⊎◌, ℕ, ◌≤◌, List, [], ◌∷◌, length, None, Some}
use Rattle.std.specs.FinMap.{get, insert, remove}
use Rattle.board_model.specs.Files.{renamed, with_content}
use Rattle.board_model.specs.Disk.{Image, Disk, Effect, Same, SameBut, Renamed, Removed, Stored}
use Rattle.board_model.specs.Disk.{Maybe}
use Rattle.mem_board.specs.declared.change.Call.{Call}
use Rattle.mem_board.specs.declared.change.Change.{Change}
use Rattle.mem_board.specs.declared.change.Change.TheVariants.{Write, SyncTemp, Rename, Remove}
use Rattle.mem_board.specs.declared.change.Change.TheVariants.{SyncDir, Store}
use Rattle.mem_board.specs.declared.change.Outcome.{Outcome}
use Rattle.mem_board.specs.declared.change.Outcome.TheVariants.{Done, FailedDone, FailedNot}

-- an image once the change is done
abbrev pub changed : Change → Image → Image
changed (Write name bytes) i = record { files = insert i.files name bytes; words = i.words }
changed (SyncTemp name) i = i
changed (Rename from to) i = record { files = renamed i.files from to; words = i.words }
changed (Remove name) i = record { files = remove i.files name; words = i.words }
changed SyncDir i = i
changed (Store words) i = record { files = i.files; words = words }

abbrev pub changed_by : Change → Outcome → Image → Image
changed_by change Done i = changed change i
changed_by change FailedDone i = changed change i
changed_by change FailedNot i = i

-- what is there now
abbrev pub now_of : Image → List Call → Image
now_of first [] = first
now_of first (call ∷ calls) = changed_by call.change call.outcome (now_of first calls)

-- the image with one file as it is in another image
abbrev pub mended : List ℕ → Image → Image → Image
mended name now i =
    record { files = with_content i.files name (get now.files name); words = i.words }

-- the images that follow from those before by the effect R
abbrev pub By : Effect → (Image → Type 0) → Image → Type 0
By R before i = (d : Image) × before d × R d i

-- An image once the directory is synced, after one call more: a file that was written and not synced
-- may hold any bytes, and each other change is there as it is now.
abbrev pub SyncedBy : Change → Outcome → Image → (Image → Type 0) → Image → Type 0
SyncedBy (Write name bytes) outcome now before i = By (SameBut name) before i
SyncedBy (SyncTemp name) Done now before i = By (λ d i. i ≡ mended name now d) before i
SyncedBy (SyncTemp name) FailedDone now before i = before i
SyncedBy (SyncTemp name) FailedNot now before i = before i
SyncedBy (Rename from to) outcome now before i =
    By (λ d i. i ≡ changed_by (Rename from to) outcome d) before i
SyncedBy (Remove name) outcome now before i =
    By (λ d i. i ≡ changed_by (Remove name) outcome d) before i
SyncedBy SyncDir outcome now before i = before i
SyncedBy (Store words) outcome now before i =
    By (λ d i. i ≡ changed_by (Store words) outcome d) before i

abbrev pub IsSynced : Image → List Call → Image → Type 0
IsSynced first [] i = i ≡ first
IsSynced first (call ∷ calls) i =
    SyncedBy call.change call.outcome (now_of first calls) (IsSynced first calls) i

-- a synced file is absent, or has what is there now
abbrev pub Mended : List ℕ → Image → Effect
Mended name now d i = ((get d.files name ≡ None) × (i ≡ d)) ⊎ (i ≡ mended name now d)

-- An image after one call more: a rename, a removal and a store that failed are done or not.
abbrev pub ImageBy
    : Change → Outcome → Image → (Image → Type 0) → (Image → Type 0) → Image → Type 0
ImageBy (Write name bytes) outcome now synced before i = By (SameBut name) before i
ImageBy (SyncTemp name) Done now synced before i = By (Mended name now) before i
ImageBy (SyncTemp name) FailedDone now synced before i = before i
ImageBy (SyncTemp name) FailedNot now synced before i = before i
ImageBy (Rename from to) outcome now synced before i = By (Maybe (Renamed from to)) before i
ImageBy (Remove name) outcome now synced before i = By (Maybe (Removed name)) before i
ImageBy SyncDir Done now synced before i = synced i
ImageBy SyncDir FailedDone now synced before i = before i
ImageBy SyncDir FailedNot now synced before i = before i
ImageBy (Store words) Done now synced before i = By (Stored words) before i
ImageBy (Store words) FailedDone now synced before i = By (Maybe (Stored words)) before i
ImageBy (Store words) FailedNot now synced before i = By (Maybe (Stored words)) before i

abbrev pub IsImage : Image → List Call → Image → Type 0
IsImage first [] i = i ≡ first
IsImage first (call ∷ calls) i =
    ImageBy call.change call.outcome (now_of first calls) (IsSynced first calls)
    (IsImage first calls) i

-- what a crash from that tick on might have left
abbrev pub WasImage : Image → List Call → ℕ → Image → Type 0
WasImage first [] t i = IsImage first [] i
WasImage first (call ∷ calls) t i =
    IsImage first (call ∷ calls) i ⊎ ((t ≤ length calls) × WasImage first calls t i)

-- the board that began with an image and has had these calls
abbrev pub disk_of : Image → List Call → Disk
disk_of first calls = record {
  now = Some (now_of first calls);
  may_leave = IsImage first calls;
  once_synced = IsSynced first calls;
  ticks = length calls;
  left_since = WasImage first calls;
}

-- what a crash in a call may leave of an image
abbrev pub InCall : Change → Effect
InCall (Write name bytes) = SameBut name
InCall (SyncTemp name) = SameBut name
InCall (Rename from to) = Maybe (Renamed from to)
InCall (Remove name) = Maybe (Removed name)
InCall SyncDir = Same
InCall (Store words) = Maybe (Stored words)

-- what the content and the synced images go by where a call is done
abbrev pub DoneAs : Change → Effect
DoneAs (Write name bytes) = SameBut name
DoneAs (SyncTemp name) = SameBut name
DoneAs (Rename from to) = Renamed from to
DoneAs (Remove name) = Removed name
DoneAs SyncDir = Same
DoneAs (Store words) = Stored words
