use Rattle.std.proofs.Common.{◌≡◌, rules, arith, sym, ◌∙◌, ap}
use Rattle.label_tree.specs.Values.{value_in, used_below}
use Rattle.label_tree.proofs.NodeLemmas.{used_kept}
use Rattle.label_tree.proofs.tree.Tree.used.Goals as goal

pub returns-clause-value : goal.returns-clause-value
returns-clause-value c =
    let nodes = c.self.inside.nodes.items in
    let read : c.used_count.result ≡ used_below (value_in nodes) 16384 = search rules in
    read ∙ sym (used_kept nodes 16384 (omega arith)) ∙ ap (λ values. used_below (value_in values) 16384) c.self.view_is
