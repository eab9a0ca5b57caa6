use Rattle.std.proofs.Common.{ℕ, List, ap, arith}
use Rattle.leaf_table.specs.Rows.{row_in}
use Rattle.label_tree.specs.Values.{value_in}
use Rattle.chip_replay.proofs.BuildLemmas.{built_more, empty_behind, whole}
use Rattle.chip_replay.proofs.building.build.Goals as goal

-- the tree was emptied
pub loop-number-init : goal.loop-number-init
loop-number-init c = record {
  built = λ i lt. absurd (omega arith);
  empty = λ i le. ap (λ (f : ℕ → List ℕ). f i) c.clear.ensures;
  past = λ some. absurd (omega arith);
}

-- one label more is built
pub loop-number-preserved : goal.loop-number-preserved
loop-number-preserved c =
    let inv = c.loop-number.invariant in
    let old = value_in c.loop-number.tree in
    let rows = row_in c.args.leaves.now in
    record {
      built = built_more old (value_in c.build_label.new.tree) rows c.loop-number.number c.build_label.ensures.value inv.built inv.empty;
      empty = empty_behind old (value_in c.build_label.new.tree) rows c.loop-number.number c.build_label.ensures.value inv.empty;
      past = λ some. c.build_label.ensures.past;
    }

-- no label is past the last one
pub returns : goal.returns
returns c =
    let inv = c.loop-number.invariant in
    whole (value_in c.loop-number.tree) (row_in c.args.leaves.now) (λ i lt. inv.built i (omega arith)) (λ i le. inv.empty i (omega arith)) (inv.past (omega arith))
