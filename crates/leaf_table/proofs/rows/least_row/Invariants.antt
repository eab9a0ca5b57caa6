use Rattle.std.proofs.Common.{◌≡◌, ℕ, ◌<◌, None}
use Rattle.leaf_table.specs.Rows.{row_in}
use Rattle.leaf_table.proofs.rows.least_row.Given as goal

abbrev pub invariant-loop-number : goal.invariant-loop-number
invariant-loop-number l = (i : ℕ) → i < l.number → row_in l.rows i ≡ None
