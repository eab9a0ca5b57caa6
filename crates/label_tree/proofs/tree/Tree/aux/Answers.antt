use Rattle.std.proofs.Common.{◌≡◌, ◌<◌, rules, ◌∙◌, ap}
use Rattle.pw_path.specs.Tree.{aux_of}
use Rattle.label_tree.specs.Values.{value_in}
use Rattle.label_tree.specs.Nodes.{rows_at}
use Rattle.label_tree.proofs.NodeLemmas.{rows_kept}
use Rattle.label_tree.proofs.tree.Tree.aux.Goals as goal

pub returns : goal.returns
returns c =
    let nodes = c.self.inside.nodes.items in
    let read : c.siblings.result ≡ rows_at nodes c.args.label 7 = search rules in
    let lt : c.args.label < 16384 = c.siblings.ensures.label in
    read ∙ rows_kept nodes c.self.invariant.each c.args.label lt ∙ ap (λ values. aux_of (value_in values) c.args.label) c.self.view_is
