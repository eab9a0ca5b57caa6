use Rattle.std.proofs.Common.{[], ◌∷◌, Err, IsOk, IsErr, refl, ap, ◌∙◌, is_ok, is_err}
use Rattle.std.specs.Prelude.{IsErrOf}
use Rattle.std.proofs.lemmas.Result.{err_from_is_err_and}
use Rattle.share_api.specs.declared.step.Write.TheVariants.{RemoveLeaf}
use Rattle.stored_home.specs.declared.fault.StoreFault.TheVariants as faults
use Rattle.pin_edits.proofs.ChangeTries.{tries_told, fault_same}
use Rattle.pin_edits.proofs.steps.give_back.Goals as goal

-- the removal failed
pub returns-in_err-change-clause-tried : goal.returns-in_err-change-clause-tried
returns-in_err-change-clause-tried g c =
    let p = err_from_is_err_and c.from_residual.result c.from_residual.ensures.1 in
    tries_told (g.S.Share.seen c.args.share.now) (g.S.Share.seen c.change.new.share) (RemoveLeaf c.args.tree ∷ [])
    (IsOk c.change.result) (IsErr c.change.result) (IsErrOf c.from_residual.result faults.Failed → ⊥)
    (IsErrOf c.from_residual.result faults.Failed) c.change.ensures.tried
    (λ n. absurd (n (p.1 ∙ ap Err p.2 ∙ c.in_err-change.ensures.only refl)))
    (λ f. ap is_err c.in_err-change.was)

-- the leaf was removed
pub returns-clause-tried : goal.returns-clause-tried
returns-clause-tried g c =
    tries_told (g.S.Share.seen c.args.share.now) (g.S.Share.seen c.change.new.share) (RemoveLeaf c.args.tree ∷ [])
    (IsOk c.change.result) (IsErr c.change.result) _ _ c.change.ensures.tried
    (λ m. ap is_ok c.in_ok-change.was) (λ f. absurd (c.requires.other (fault_same c.args.fault f)))
