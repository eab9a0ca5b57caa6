-- The leaf records that a host keeps, their tree, and what a replay makes of them.
use Rattle.std.specs.Prelude.{◌≡◌, ◌≢◌, ℕ, Option, Some, None, List}
use Rattle.pw_path.specs.Tree.{no_hash}
use Rattle.pw_log.specs.declared.entry.TheConstants.{RESET_TREE}
use Rattle.pw_leaf.specs.Reading.{mac_of}
use Rattle.pw_chip.specs.State.{ChipState}
use Rattle.label_tree.specs.Values.{with_value}
use Rattle.leaf_table.specs.Rows.{with_row, no_rows, IsLeastRow}
use Rattle.pin_ops.specs.declared.answer.Resync.{Resync}
use Rattle.pin_ops.specs.declared.answer.Resync.TheVariants.{InStep, Inserted, Put, Removed, Emptied, Lost}
use Rattle.pin_ops.specs.Resyncing.{resynced}

-- a record or none for each label
abbrev pub Rows : Type 0
Rows = ℕ → Option (List ℕ)

-- the value of a label with this record: its MAC
abbrev pub value_of_row : Option (List ℕ) → List ℕ
value_of_row None = no_hash
value_of_row (Some bytes) = mac_of bytes

-- the values of the tree over all records
abbrev pub values_of : Rows → ℕ → List ℕ
values_of rows label = value_of_row (rows label)

-- what a host with this tree and these records is answered
abbrev pub answer_of : ChipState → (ℕ → List ℕ) → Rows → Resync
answer_of w values rows = resynced w values (rows w.log.newest.label)

-- the records once the answer is carried out; those of an insert were never there
abbrev pub rows_by : Resync → Rows → Rows
rows_by InStep rows = rows
rows_by (Inserted label) rows = rows
rows_by (Put label bytes) rows = with_row rows label (Some bytes)
rows_by (Removed label) rows = with_row rows label None
rows_by Emptied rows = no_rows
rows_by (Lost host chip) rows = rows

-- The label whose record a replay of the newest entry would change: the entry's own, and where it emptied the tree the
-- least that has a record.
pub record IsDueLabel (w : ChipState) (rows : Rows) (due : Option ℕ) : Type 0 where
  pub emptied : w.log.newest.operation ≡ RESET_TREE → IsLeastRow rows due
  pub own : w.log.newest.operation ≢ RESET_TREE → due ≡ Some w.log.newest.label

-- the values with the MAC of a label's record, where it has one
abbrev pub with_value_where : (ℕ → List ℕ) → ℕ → Option (List ℕ) → ℕ → List ℕ
with_value_where values label None = values
with_value_where values label (Some bytes) = with_value values label (mac_of bytes)
