use Rattle.std.proofs.Common.{◌≡◌, ℕ, ◌+◌, ◌<◌, length}
use Rattle.pw_path.specs.Tree.{node_at, no_hash}
use Rattle.label_tree.specs.Values.{value_in}
use Rattle.label_tree.specs.Nodes.{level_of}
use Rattle.label_tree.proofs.nodes.empty_all.Given as goal

abbrev pub invariant-loop-label : goal.invariant-loop-label
invariant-loop-label l = record {
  size : length l.nodes ≡ 21845;
  values : (i : ℕ) → i < l.label → value_in l.nodes i ≡ no_hash;
}

abbrev pub invariant-loop-place : goal.invariant-loop-place
invariant-loop-place l = record {
  size : length l.nodes ≡ 21845;
  values : (i : ℕ) → i < 16384 → value_in l.nodes i ≡ no_hash;
  inner : (k : ℕ) → 16384 + k < l.place → value_in l.nodes (16384 + k) ≡ node_at (λ _. no_hash) (level_of k) 0;
}
