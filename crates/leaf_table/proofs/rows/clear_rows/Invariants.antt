use Rattle.std.proofs.Common.{◌≡◌, ℕ, ◌<◌, None, length}
use Rattle.leaf_table.specs.Rows.{row_in}
use Rattle.leaf_table.proofs.rows.clear_rows.Given as goal

abbrev pub invariant-loop-number : goal.invariant-loop-number
invariant-loop-number l = record {
  size : length l.rows ≡ 16384;
  empty : (i : ℕ) → i < l.number → row_in l.rows i ≡ None;
}
