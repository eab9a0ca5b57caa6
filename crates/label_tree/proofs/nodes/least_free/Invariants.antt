use Rattle.std.proofs.Common.{◌≢◌, ℕ, ◌<◌}
use Rattle.pw_path.specs.Tree.{no_hash}
use Rattle.label_tree.specs.Values.{value_in}
use Rattle.label_tree.proofs.nodes.least_free.Given as goal

abbrev pub invariant-loop-label : goal.invariant-loop-label
invariant-loop-label l = (i : ℕ) → i < l.label → value_in l.nodes i ≢ no_hash
