-- The image that a crash leaves, chosen among the outcomes of the calls so far.
use Rattle.std.specs.Prelude.{ℕ, ◌-◌, ◌/◌, ◌%◌, Bool, true, false, cond, ◌||◌, nat_eq, nat_lt}
use Rattle.std.specs.Prelude.{List, [], ◌∷◌, length, take, drop, is_some}
use Rattle.std.specs.FinMap.{get}
use Rattle.board_model.specs.Disk.{Image, Disk}
use Rattle.mem_board.specs.Images.{changed, changed_by, now_of, mended, disk_of}
use Rattle.mem_board.specs.Memory.{Memory}
use Rattle.mem_board.specs.declared.change.Call.{Call}
use Rattle.mem_board.specs.declared.change.Change.{Change}
use Rattle.mem_board.specs.declared.change.Change.TheVariants.{Write, SyncTemp, Rename, Remove}
use Rattle.mem_board.specs.declared.change.Change.TheVariants.{SyncDir, Store}
use Rattle.mem_board.specs.declared.change.Outcome.{Outcome}
use Rattle.mem_board.specs.declared.change.Outcome.TheVariants.{Done, FailedDone, FailedNot}

-- a change that isn't a write is in each image as it is now: the directory was synced later, or it is
-- a store that is done
abbrev pub is_certain : Bool → Change → Outcome → Bool
is_certain synced (Write name bytes) outcome = synced
is_certain synced (SyncTemp name) outcome = synced
is_certain synced (Rename from to) outcome = synced
is_certain synced (Remove name) outcome = synced
is_certain synced SyncDir outcome = synced
is_certain synced (Store words) Done = true
is_certain synced (Store words) FailedDone = synced
is_certain synced (Store words) FailedNot = synced

-- how many outcomes a call has
abbrev pub choices : Bool → Change → Outcome → ℕ
choices synced (Write name bytes) outcome = 4
choices synced (SyncTemp name) outcome = 1
choices synced (Rename from to) outcome = cond synced 1 2
choices synced (Remove name) outcome = cond synced 1 2
choices synced SyncDir outcome = 1
choices synced (Store words) outcome = cond (is_certain synced (Store words) outcome) 1 2

-- a file that was written is new, as it was, absent or cut in half
abbrev pub written_as : ℕ → List ℕ → List ℕ → Image → Image
written_as digit name bytes i =
    cond (nat_eq digit 0) (changed (Write name bytes) i)
    (cond (nat_eq digit 1) i
    (cond (nat_eq digit 2) (changed (Remove name) i)
    (changed (Write name (take (length bytes / 2) bytes)) i)))

-- another change is as it is now, or done, or not
abbrev pub done_as : Bool → ℕ → Change → Outcome → Image → Image
done_as certain digit change outcome i =
    cond certain (changed_by change outcome i) (cond (nat_eq digit 0) (changed change i) i)

-- a synced file has what is there now, unless the image lacks it and the directory isn't synced
abbrev pub synced_as : Bool → List ℕ → Image → Image → Image
synced_as synced name now i = cond (synced || is_some (get i.files name)) (mended name now i) i

-- the image after one call more, by a digit below its choices
abbrev pub chosen : Bool → Change → Outcome → Image → ℕ → Image → Image
chosen synced (Write name bytes) outcome now digit i = written_as digit name bytes i
chosen synced (SyncTemp name) Done now digit i = synced_as synced name now i
chosen synced (SyncTemp name) FailedDone now digit i = i
chosen synced (SyncTemp name) FailedNot now digit i = i
chosen synced (Rename from to) outcome now digit i = done_as synced digit (Rename from to) outcome i
chosen synced (Remove name) outcome now digit i = done_as synced digit (Remove name) outcome i
chosen synced SyncDir outcome now digit i = i
chosen synced (Store words) outcome now digit i =
    done_as (is_certain synced (Store words) outcome) digit (Store words) outcome i

-- the sync of the directory, done
abbrev pub is_dir_sync : Change → Outcome → Bool
is_dir_sync SyncDir Done = true
is_dir_sync SyncDir FailedDone = false
is_dir_sync SyncDir FailedNot = false
is_dir_sync (Write name bytes) outcome = false
is_dir_sync (SyncTemp name) outcome = false
is_dir_sync (Rename from to) outcome = false
is_dir_sync (Remove name) outcome = false
is_dir_sync (Store words) outcome = false

-- how many calls there were up to the last sync of the directory
abbrev pub synced_to : List Call → ℕ
synced_to [] = 0
synced_to (call ∷ calls) =
    cond (is_dir_sync call.change call.outcome) (length (call ∷ calls)) (synced_to calls)

-- an image, and the digits that are left to choose by
pub record Choice : Type 0 where
  pub image : Image
  pub pick : ℕ

abbrev pub next_choice : Bool → Call → Image → Choice → Choice
next_choice synced call now before =
    let count = choices synced call.change call.outcome in
    record {
      image = chosen synced call.change call.outcome now (before.pick % count) before.image;
      pick = before.pick / count;
    }

-- The image after these calls, the oldest of which takes the lowest digit of `pick`; `synced` counts
-- those after which the directory was synced.
abbrev pub choice_at : ℕ → Image → List Call → ℕ → Choice
choice_at synced first [] pick = record { image = first; pick = pick }
choice_at synced first (call ∷ calls) pick =
    next_choice (nat_lt (length calls) synced) call (now_of first calls)
    (choice_at synced first calls pick)

-- the calls up to a tick
abbrev pub calls_to : Memory → ℕ → List Call
calls_to m tick = drop (length m.calls - tick) m.calls

-- the board as it was at a tick
abbrev pub disk_then : Memory → ℕ → Disk
disk_then m tick = disk_of m.first (calls_to m tick)

abbrev pub image_at : Memory → ℕ → ℕ → Image
image_at m tick pick =
    let calls = calls_to m tick in (choice_at (synced_to calls) m.first calls pick).image
