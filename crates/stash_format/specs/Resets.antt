-- The reset secrets of a payload, in strictly rising order of their labels.
use Rattle.std.specs.Prelude.{ℕ, zero, suc, nat_le, List, Result, Ok}
use Rattle.std.specs.Ordering.{nat_cmp}
use Rattle.std.specs.Cmp.Lexicographic.{slice_cmp}
use Rattle.std.specs.FinMap.{FinMap, insert}
use Rattle.ct_bytes.specs.Reading.{Unread, u8_at, u64_at, rule, or_fault, ◌>>=◌, ◌>>◌}
use Rattle.record_fields.specs.Names.{label_at}
use Rattle.stash_format.specs.declared.fault.RecordFault.{RecordFault}
use Rattle.stash_format.specs.declared.fault.RecordFault.TheVariants.{BadStash}
use Rattle.stash_format.specs.declared.reset.Reset.{Reset}
use Rattle.stash_format.specs.Faults.{bad_at, bad_field}
use Rattle.stash_format.specs.Fields.{such, part_at}
use Rattle.stash_format.specs.Blocks.{rises}

-- reset secrets by the labels of their factors
abbrev pub Resets : Type 0
Resets = FinMap (slice_cmp nat_cmp) Reset

-- the number of reset secrets
unfoldable pub reset_count_at : Unread → Result (ℕ × Unread) RecordFault
reset_count_at at = such u8_at (λ count. nat_le count 16) at

-- a label above the last one and its reset secret, put to those before
unfoldable pub reset_row_at : List ℕ → Resets → Unread → Result ((List ℕ × Resets) × Unread) RecordFault
reset_row_at last resets at = do
  label ← or_fault bad_field (label_at at)
  rule (rises last label.0) (BadStash at.place)
  edition ← or_fault bad_at (u64_at label.1)
  secret ← part_at 32 edition.1
  Ok ((label.0, insert resets label.0 (record { edition = edition.0; secret = secret.0 })), secret.1)

-- so many reset secrets behind the last label, put to those before
unfoldable pub resets_at : ℕ → List ℕ → Resets → Unread → Result (Resets × Unread) RecordFault
resets_at zero last resets at = Ok (resets, at)
resets_at (suc count) last resets at = do
  row ← reset_row_at last resets at
  resets_at count row.0.0 row.0.1 row.1
