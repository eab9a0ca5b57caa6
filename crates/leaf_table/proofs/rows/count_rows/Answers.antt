use Rattle.std.proofs.Common.{arith, sym, ◌∙◌}
use Rattle.leaf_table.specs.Rows.{row_in}
use Rattle.leaf_table.proofs.RowLemmas.{counted_none, counted_more, counted_same}
use Rattle.leaf_table.proofs.rows.count_rows.Goals as goal
use Rattle.leaf_table.proofs.rows.count_rows.Goals.{then-is_some, else-is_some}

pub loop-number-init : goal.loop-number-init
loop-number-init c = record { most = omega arith; counted = sym (counted_none (row_in c.args.rows.now)) }

-- the label is counted exactly where it has a record
pub loop-number-preserved : goal.loop-number-preserved
loop-number-preserved c =
    let rows = row_in c.args.rows.now in
    let n = c.loop-number.number in
    let old = c.loop-number.invariant in
    elim c.if-is_some.branch [
      | then-is_some w ↦ record { most = omega arith; counted = w.count-is ∙ counted_more rows n c.loop-number.count old.counted (sym c.is_some.ensures ∙ w.if-is_some.true) }
      | else-is_some w ↦ record { most = omega arith; counted = w.count-is ∙ counted_same rows n c.loop-number.count old.counted (sym c.is_some.ensures ∙ w.if-is_some.false) }
    ]
