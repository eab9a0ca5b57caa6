use Rattle.std.proofs.Common.{◌-◌, ◌≡◌, ℕ, ◌<◌, ◌/◌, length}
use Rattle.label_tree.specs.Values.{value_in, with_value}
use Rattle.label_tree.specs.Nodes.{AreNodesBut}
use Rattle.label_tree.proofs.nodes.renew.Given as goal

abbrev pub invariant-loop-place : goal.invariant-loop-place
invariant-loop-place l = record {
  size : length l.nodes ≡ 21845;
  inside : l.place < 21845;
  but : AreNodesBut (l.place / 4) l.nodes;
  values : (i : ℕ) → i < 16384 → value_in l.nodes i ≡ with_value (value_in l.fn.nodes) l.fn.label l.mac i;
}

abbrev pub decreases-loop-place : goal.decreases-loop-place
decreases-loop-place l = 21844 - l.place
