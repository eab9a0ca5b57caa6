use Rattle.std.proofs.Common.{rules, refl, sym, arith, ◌≡◌, ◌<◌, inl, inr, length, get_or, [], ◌+◌, add-one, get_or-set_same, get_or-set_other}
use Rattle.std.proofs.lemmas.Bool.{cases_eq}
use Rattle.pw_path.specs.Tree.{node_at, no_hash}
use Rattle.pw_path.proofs.TreeLemmas.{node_at_one_more}
use Rattle.pw_path.proofs.path.empty_roots.Goals as goal

pub loop-level-init : goal.loop-level-init
unfolding node_at
loop-level-init c = record { size = refl; made = λ k h. let e : k ≡ 0 = omega arith in rw e refl }

-- the new node hashes four of the node below
pub loop-level-preserved : goal.loop-level-preserved
loop-level-preserved c =
    let level = c.loop-level.level in
    let inv = c.loop-level.invariant in
    let below : get_or c.loop-level.roots level [] ≡ node_at (λ _. no_hash) level 0 = inv.made level (omega arith) in
    let fits : level + 1 < length c.loop-level.roots = omega arith in
    record {
      size = search rules;
      made = λ k h. elim (cases_eq k (level + 1)) [
        | inl same ↦ rw (same, get_or-set_same, c.node-above.ensures, below, add-one) (sym (node_at_one_more no_hash level))
        | inr ne ↦ rw get_or-set_other (inv.made k (omega arith))
      ];
    }
