use Rattle.std.proofs.Common.{◌≡◌, length, take, drop, ◌∙◌, ap, arith}
use Rattle.std.proofs.lemmas.List.{take_at}
use Rattle.label_tree.specs.Values.{value_in}
use Rattle.label_tree.proofs.NodeLemmas.{empty_values}
use Rattle.label_tree.proofs.tree.Tree.new.Goals as goal

-- the list has been filled, and each label's value in it is that of an empty label
pub returns : goal.returns
returns c =
    let nodes = c.empty_all.new.nodes in
    let kept : length nodes ≡ c.in_ok-nodes.nodes.len = omega (arith, c.empty_all.ensures.kept.size, c.in_ok-nodes.nodes.ok.0) in
    ap (λ ns. value_in (take 16384 ns)) (take_at nodes (drop (length nodes) c.in_ok-nodes.nodes.items) c.in_ok-nodes.nodes.len kept)
    ∙ empty_values nodes c.empty_all.ensures.kept.size c.empty_all.ensures.empty
