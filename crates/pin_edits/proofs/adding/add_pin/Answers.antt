use Rattle.std.proofs.Common.{Err, ap, ◌∙◌}
use Rattle.std.proofs.lemmas.Result.{err_from_is_err_and}
use Rattle.home_edits.proofs.CostLemmas.{costs_none}
use Rattle.home_edits.proofs.Edited.{err_not_ok}
use Rattle.pin_edits.specs.Pins.{SetsPin}
use Rattle.pin_edits.proofs.LostTrees.{stopped_calm, stopped_undamaged}
use Rattle.pin_edits.proofs.PinSet.{no_set}
use Rattle.pin_edits.proofs.adding.add_pin.Goals as goal

-- the tree is lost
pub returns-in_err-in_step-clause-edits : goal.returns-in_err-in_step-clause-edits
returns-in_err-in_step-clause-edits g c =
    let p = err_from_is_err_and c.from_residual.result c.from_residual.ensures.1 in
    no_set (g.S.Share.seen c.args.share.now) c.args.account.now c.args.stored.now c.from_residual.result
    (SetsPin c.args.label.now c.args.pin.now c.args.main.now)
    (err_not_ok c.from_residual.result c.from_residual.ensures.0)
    (stopped_calm c.args.stored.now.lost c.in_err-in_step.field-0.0 c.from_residual.result
    c.in_err-in_step.ensures.value (p.1 ∙ ap Err p.2))
    (λ name damaged. absurd (stopped_undamaged c.args.stored.now.lost c.in_err-in_step.field-0.0
    c.from_residual.result c.in_err-in_step.ensures.value (p.1 ∙ ap Err p.2) name damaged))

-- nothing was put
pub returns-in_err-in_step-clause-cost : goal.returns-in_err-in_step-clause-cost
returns-in_err-in_step-clause-cost g c =
    costs_none (g.S.Share.seen c.args.share.now) c.args.account.now c.args.pin.now.derived.cost
