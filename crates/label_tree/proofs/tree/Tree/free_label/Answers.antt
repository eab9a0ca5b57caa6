use Rattle.std.proofs.Common.{rules, subst}
use Rattle.label_tree.specs.Values.{value_in, IsLeastFree}
use Rattle.label_tree.proofs.NodeLemmas.{least_kept}
use Rattle.label_tree.proofs.tree.Tree.free_label.Goals as goal

pub returns : goal.returns
returns c =
    let nodes = c.self.inside.nodes.items in
    let read : IsLeastFree (value_in nodes) c.least_free.result = search rules in
    subst (λ values. IsLeastFree (value_in values) c.least_free.result) c.self.view_is (least_kept nodes c.least_free.result read)
