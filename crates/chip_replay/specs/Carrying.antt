-- What carrying out an answer makes of the board.
use Rattle.std.specs.Prelude.{◌⊎◌, ℕ, Option, Some, None, List}
use Rattle.board_model.specs.Disk.{Disk, Effect, Same, Stored, Maybe, Goes, GoesOrNot}
use Rattle.staged_file.specs.Staged.{Kept, Replaced, KeptOr}
use Rattle.pw_path.specs.Tree.{aux_of, no_hash}
use Rattle.pw_chip.specs.State.{ChipState}
use Rattle.pw_chip.specs.Calls.{Remove}
use Rattle.pw_chip.specs.Step.{step}
use Rattle.label_tree.specs.Values.{with_value}
use Rattle.pin_ops.specs.declared.answer.Resync.{Resync}
use Rattle.pin_ops.specs.declared.answer.Resync.TheVariants.{InStep, Inserted, Put, Removed, Emptied, Lost}

-- ---- one record's change; without a name there is no record

-- at each moment
abbrev pub Changing : Option (List ℕ) → Option (List ℕ) → Effect
Changing None content = Same
Changing (Some name) content = KeptOr (Replaced name content)

-- once it is done
abbrev pub Changed : Option (List ℕ) → Option (List ℕ) → Effect
Changed None content = Same
Changed (Some name) content = Replaced name content

-- done or not
abbrev pub EndsChanged : Option (List ℕ) → Option (List ℕ) → Disk → Disk → Type 0
EndsChanged None content old new = Goes old new Same
EndsChanged (Some name) content old new = Goes old new Kept ⊎ Goes old new (Replaced name content)

-- ---- the answer; `words` are the bytes of the words after it, and `name` is that of the record

-- at each moment
abbrev pub Carrying : List ℕ → Option (List ℕ) → Resync → Effect
Carrying words name InStep = Same
Carrying words name (Inserted label) = Maybe (Stored words)
Carrying words name (Put label bytes) = Changing name (Some bytes)
Carrying words name (Removed label) = Changing name None
Carrying words name Emptied = Changing name None
Carrying words name (Lost host chip) = Same

-- once it is done
abbrev pub Carried : List ℕ → Option (List ℕ) → Resync → Effect
Carried words name InStep = Same
Carried words name (Inserted label) = Stored words
Carried words name (Put label bytes) = Changed name (Some bytes)
Carried words name (Removed label) = Changed name None
Carried words name Emptied = Changed name None
Carried words name (Lost host chip) = Same

-- done or not
abbrev pub EndsCarried : List ℕ → Option (List ℕ) → Resync → Disk → Disk → Type 0
EndsCarried words name InStep old new = Goes old new Same
EndsCarried words name (Inserted label) old new = GoesOrNot old new (Stored words)
EndsCarried words name (Put label bytes) old new = EndsChanged name (Some bytes) old new
EndsCarried words name (Removed label) old new = EndsChanged name None old new
EndsCarried words name Emptied old new = EndsChanged name None old new
EndsCarried words name (Lost host chip) old new = Goes old new Same

-- ---- the words

-- the chip's words once it was asked to remove what the tree has at the label
abbrev pub removed_words : ChipState → (ℕ → List ℕ) → ℕ → ℕ → ChipState
removed_words w values label now = (step w (Remove label (aux_of values label) (values label)) now).1

-- the words after the answer, for a tree that follows it already: an insert is undone
abbrev pub words_after : ChipState → (ℕ → List ℕ) → Resync → ℕ → ChipState
words_after w values InStep now = w
words_after w values (Inserted label) now = removed_words w values label now
words_after w values (Put label bytes) now = w
words_after w values (Removed label) now = w
words_after w values Emptied now = w
words_after w values (Lost host chip) now = w

-- the values after it, for a tree that follows it already
abbrev pub values_then : Resync → (ℕ → List ℕ) → ℕ → List ℕ
values_then InStep values = values
values_then (Inserted label) values = with_value values label no_hash
values_then (Put label bytes) values = values
values_then (Removed label) values = values
values_then Emptied values = values
values_then (Lost host chip) values = values
