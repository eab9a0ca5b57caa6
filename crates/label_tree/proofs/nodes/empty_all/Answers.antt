use Rattle.std.proofs.Common.{◌≡◌, arith}
use Rattle.label_tree.proofs.NodeLemmas.{empty_nodes_kept}
use Rattle.label_tree.proofs.nodes.empty_all.Goals as goal

-- at the end of the second loop each node is that of its level over empty labels
pub returns-clause-kept : goal.returns-clause-kept
returns-clause-kept c =
    let inv = c.loop-place.invariant in
    let end : c.loop-place.place ≡ 21845 = omega arith in
    record {
      size = omega arith;
      each = empty_nodes_kept c.loop-place.nodes inv.values (λ k h. inv.inner k (omega arith));
    }
