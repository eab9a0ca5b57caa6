use Rattle.std.proofs.Common.{ℕ, List, Err, ap, ◌∙◌, subst}
use Rattle.std.proofs.lemmas.Result.{err_from_is_err_and}
use Rattle.std.specs.Prelude.{IsSome}
use Rattle.std.specs.FinMap.{get}
use Rattle.factor_files.specs.declared.factor.FactorRecord.{FactorRecord}
use Rattle.share_api.specs.Replies.{try_reply}
use Rattle.share_api.specs.Seen.{Makes, step_of}
use Rattle.share_api.specs.declared.step.Op.TheVariants.{TryLeaf}
use Rattle.home_edits.proofs.Edited.{err_not_ok, there_some}
use Rattle.pin_edits.proofs.LostTrees.{went_on, share_found, stopped_calm}
use Rattle.pin_edits.proofs.PinTried.{no_try, try_edits}
use Rattle.pin_edits.proofs.trying.try_pin.Goals as goal

-- the tree is lost
pub returns-in_err-in_step-clause-edits : goal.returns-in_err-in_step-clause-edits
returns-in_err-in_step-clause-edits g c = λ account.
    let p = err_from_is_err_and c.from_residual.result c.from_residual.ensures.1 in
    no_try (g.S.Share.seen c.args.share.now) account c.args.stored.now c.args.label.now c.args.key.now c.args.moment
    c.from_residual.result (err_not_ok c.from_residual.result c.from_residual.ensures.0)
    (stopped_calm c.args.stored.now.lost c.in_err-in_step.field-0.0 c.from_residual.result
    c.in_err-in_step.ensures.value (p.1 ∙ ap Err p.2))

-- the leaf was tried
pub returns-clause-edits : goal.returns-clause-edits
returns-clause-edits g c = λ account.
    let known = there_some (λ (row : FactorRecord). IsSome row.leaf) (get c.args.stored.now.factors c.args.label.now)
    c.requires.known in
    let none = went_on c.args.stored.now.lost c.in_ok-in_step.field-0 c.in_ok-in_step.ensures.value in
    try_edits account c.args.stored.now c.args.label.now known.0 known.1 c.leaf_of-tree.result
    (c.leaf_of-tree.ensures.value known.0 known.1) (g.S.Share.seen c.args.share.now) c.args.key.now c.args.moment
    c.try_leaf.result (g.S.Share.seen c.try_leaf.new.self) c.answered.result
    (share_found (g.S.Share.seen c.args.share.now).lost c.args.stored.now.lost c.requires.lost none)
    (subst (λ (les : List ℕ). Makes (g.S.Share.seen c.args.share.now) (g.S.Share.seen c.try_leaf.new.self)
    (step_of (g.S.Share.seen c.args.share.now) c.args.moment (TryLeaf c.leaf_of-tree.result les)
    (try_reply c.try_leaf.result))) c.wrap_of.ensures c.try_leaf.ensures.made)
    c.answered.ensures.value
