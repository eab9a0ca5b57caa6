use Rattle.std.proofs.Common.{◌≡◌, ◌<◌, sym, ◌∙◌, ap, subst}
use Rattle.label_tree.specs.Values.{value_in}
use Rattle.pw_path.specs.Tree.{root}
use Rattle.chip_replay.proofs.UndoLemmas.{removed_in_step, removed_by}
use Rattle.chip_replay.proofs.undoing.undo.Goals as goal

-- the chip's newest root is that of the tree without the label
pub returns-clause-in_step : goal.returns-clause-in_step
returns-clause-in_step c = λ is.
    let w = c.args.words.now in
    let v = value_in c.args.tree.now in
    removed_by w c.step.new.words v c.args.label c.number.result c.aux.result c.at.result c.args.now c.step.result
    (c.number.ensures.value) c.aux.ensures c.at.ensures c.step.ensures.value
    (λ next. next.log.newest.root ≡ root (value_in c.take.new.self))
    (removed_in_step w v c.args.label c.args.now (subst (λ n. n < 16384) c.number.ensures.value c.number.ensures.within) is ∙ ap root (sym c.take.ensures))
