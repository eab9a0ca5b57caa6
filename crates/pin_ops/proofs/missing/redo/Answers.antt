use Rattle.std.proofs.Common.{◌∙◌, ap}
use Rattle.log_replay.specs.Replaying.{applied}
use Rattle.label_tree.specs.Values.{value_in}
use Rattle.pin_ops.proofs.MissingLemmas.{found_values}
use Rattle.pin_ops.proofs.missing.redo.Goals as goal

-- the plan leaves the values that the answer names
pub returns-clause-tree : goal.returns-clause-tree
returns-clause-tree c =
    let v = value_in c.args.tree.now in
    c.apply.ensures
    ∙ ap (λ plan. applied plan v) c.plan-replay.ensures.value
    ∙ found_values c.args.words.now c.args.entry.now v _ c.in-Some.found c.requires.newest c.in-Some.ensures.value
