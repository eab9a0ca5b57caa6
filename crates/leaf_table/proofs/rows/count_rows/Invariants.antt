use Rattle.std.proofs.Common.{◌≡◌, ◌≤◌}
use Rattle.leaf_table.specs.Rows.{row_in, rows_below}
use Rattle.leaf_table.proofs.rows.count_rows.Given as goal

abbrev pub invariant-loop-number : goal.invariant-loop-number
invariant-loop-number l = record {
  most : l.count ≤ l.number;
  counted : l.count ≡ rows_below (row_in l.rows) l.number;
}
