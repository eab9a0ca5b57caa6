use Rattle.std.proofs.Common.{◌≡◌, ◌<◌, rules, ◌∙◌, ap}
use Rattle.pw_path.specs.Tree.{aux_of}
use Rattle.pw_path.specs.Path.{root_of}
use Rattle.label_tree.specs.Values.{value_in}
use Rattle.label_tree.specs.Nodes.{rows_at}
use Rattle.label_tree.proofs.NodeLemmas.{rows_kept, root_with}
use Rattle.label_tree.proofs.tree.Tree.root_with.Goals as goal

-- the path of the new value, with the siblings that are kept
pub returns : goal.returns
returns c =
    let nodes = c.self.inside.nodes.items in
    let label = c.args.label in
    let mac = c.args.mac.now in
    let read : c.siblings.result ≡ rows_at nodes label 7 = search rules in
    let lt : label < 16384 = c.siblings.ensures.label in
    c.root_of.ensures
    ∙ ap (root_of label mac) (read ∙ rows_kept nodes c.self.invariant.each label lt ∙ ap (λ values. aux_of (value_in values) label) c.self.view_is)
    ∙ root_with (value_in c.args.self.now) label mac lt
