use Rattle.std.proofs.Common.{◌≡◌, ℕ, ◌≤◌, get_or, [], length}
use Rattle.pw_path.specs.Tree.{node_at, no_hash}
use Rattle.pw_path.proofs.path.empty_roots.Given as goal

abbrev pub invariant-loop-level : goal.invariant-loop-level
invariant-loop-level l = record {
  size : length l.roots ≡ 8;
  made : (k : ℕ) → k ≤ l.level → get_or l.roots k [] ≡ node_at (λ _. no_hash) k 0;
}
