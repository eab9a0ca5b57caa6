-- The blocks of a stash's record, in strictly rising order of their labels.
use Rattle.std.specs.Prelude.{ℕ, zero, suc, Bool, List, Result, Ok}
use Rattle.std.specs.Ordering.{nat_cmp, is_lt}
use Rattle.std.specs.Cmp.Lexicographic.{slice_cmp}
use Rattle.std.specs.FinMap.{FinMap, insert}
use Rattle.ct_bytes.specs.Reading.{Unread, rule, or_fault, ◌>>=◌, ◌>>◌}
use Rattle.record_fields.specs.Names.{label_at}
use Rattle.stash_format.specs.declared.fault.RecordFault.{RecordFault}
use Rattle.stash_format.specs.declared.fault.RecordFault.TheVariants.{BadStash}
use Rattle.stash_format.specs.declared.block.Block.{Block}
use Rattle.stash_format.specs.Faults.{bad_field}
use Rattle.stash_format.specs.Fields.{block_at}

-- blocks by their factors' labels
abbrev pub Blocks : Type 0
Blocks = FinMap (slice_cmp nat_cmp) Block

-- whether a label is above the last one; each is above the empty one
abbrev pub rises : List ℕ → List ℕ → Bool
rises last label = is_lt (slice_cmp nat_cmp last label)

-- a label above the last one and its block, put to those before: the label, and the blocks so far
unfoldable pub row_at : ℕ → ℕ → List ℕ → Blocks → Unread → Result ((List ℕ × Blocks) × Unread) RecordFault
row_at version next last blocks at = do
  label ← or_fault bad_field (label_at at)
  rule (rises last label.0) (BadStash at.place)
  block ← block_at version next label.1
  Ok ((label.0, insert blocks label.0 block.0), block.1)

-- so many blocks behind the last label, put to those before
unfoldable pub blocks_at : ℕ → ℕ → ℕ → List ℕ → Blocks → Unread → Result (Blocks × Unread) RecordFault
blocks_at zero version next last blocks at = Ok (blocks, at)
blocks_at (suc count) version next last blocks at = do
  row ← row_at version next last blocks at
  blocks_at count version next row.0.0 row.0.1 row.1
