use Rattle.std.proofs.Common.{◌≡◌, ℕ, Result, Err, sym, ap, ◌∙◌, subst}
use Rattle.std.proofs.lemmas.Result.{err_from_is_err_and}
use Rattle.std.specs.Prelude.{IfErr, IsSome}
use Rattle.std.specs.FinMap.{get}
use Rattle.factor_files.specs.declared.factor.FactorRecord.{FactorRecord}
use Rattle.share_api.specs.Conditions.{IsTryFault}
use Rattle.stash_format.specs.declared.contents.Contents.{Contents as Stash}
use Rattle.stored_home.specs.declared.fault.StoreFault.{StoreFault}
use Rattle.stored_home.proofs.MapLemmas.{from_some}
use Rattle.pin_edits.specs.Faults.{IsResetFault}
use Rattle.home_edits.proofs.Edited.{err_not_ok, there_some}
use Rattle.pin_edits.proofs.LostTrees.{went_on, share_found, stopped_calm}
use Rattle.pin_edits.proofs.PinReset.{no_reset, reset_edits, stash_not_failed, stash_fault_only, leaf_fault_only}
use Rattle.pin_edits.proofs.resetting.reset_pin.Goals as goal

-- the tree is lost
pub returns-in_err-in_step-clause-edits : goal.returns-in_err-in_step-clause-edits
returns-in_err-in_step-clause-edits g c =
    let p = err_from_is_err_and c.from_residual.result c.from_residual.ensures.1 in
    no_reset (g.S.Share.seen c.args.share.now) c.args.account.now c.args.stored.now c.args.label.now c.args.main.now
    c.from_residual.result (err_not_ok c.from_residual.result c.from_residual.ensures.0)
    (stopped_calm c.args.stored.now.lost c.in_err-in_step.field-0.0 c.from_residual.result
    c.in_err-in_step.ensures.value (p.1 ∙ ap Err p.2))

-- the payload didn't open, or has no reset secret of the PIN, or there was no memory
pub returns-in_err-tree-clause-edits : goal.returns-in_err-tree-clause-edits
returns-in_err-tree-clause-edits g c =
    let result = c.from_residual-in_err-tree.result in
    let p = err_from_is_err_and result c.from_residual-in_err-tree.ensures.1 in
    no_reset (g.S.Share.seen c.args.share.now) c.args.account.now c.args.stored.now c.args.label.now c.args.main.now
    result (err_not_ok result c.from_residual-in_err-tree.ensures.0)
    (stash_not_failed c.args.account.now c.in_err-tree.field-0.0 result c.in_err-tree.ensures.only (p.1 ∙ ap Err p.2))

-- the leaf was reset
pub returns-clause-edits : goal.returns-clause-edits
returns-clause-edits g c =
    let known = there_some (λ (row : FactorRecord). IsSome row.leaf) (get c.args.stored.now.factors c.args.label.now)
    c.requires.known in
    let home = there_some (λ (stash : Stash). IsSome stash.payload) c.args.stored.now.stash c.requires.home in
    let none = went_on c.args.stored.now.lost c.in_ok-in_step.field-0 c.in_ok-in_step.ensures.value in
    reset_edits c.args.account.now c.args.stored.now c.args.label.now known.0 known.1 home.0 home.1 c.in_ok-tree.tree
    c.args.main.now c.in_ok-tree.secret (c.in_ok-tree.ensures.value known.0 home.0 known.1 home.1)
    (g.S.Share.seen c.args.share.now) c.args.moment c.in_ok-tree.name c.reset_leaf.result
    (g.S.Share.seen c.reset_leaf.new.self) c.ended_reset.result
    (share_found (g.S.Share.seen c.args.share.now).lost c.args.stored.now.lost c.requires.lost none)
    c.reset_leaf.ensures.made c.ended_reset.ensures.value

-- the stash is damaged, or there was no memory
pub returns-in_err-tree-clause-only : goal.returns-in_err-tree-clause-only
returns-in_err-tree-clause-only g c = λ row tree at names.
    let result = c.from_residual-in_err-tree.result in
    let p = err_from_is_err_and result c.from_residual-in_err-tree.ensures.1 in
    subst (λ (r : Result Unit StoreFault). IfErr r (IsResetFault c.args.account.now c.args.label.now row.edition tree))
    (sym (p.1 ∙ ap Err p.2))
    (stash_fault_only c.args.account.now c.args.label.now row.edition tree c.in_err-tree.field-0.0
    c.in_err-tree.ensures.only)

-- the leaf was tried
pub returns-clause-only : goal.returns-clause-only
returns-clause-only g c = λ row tree at names.
    let known = there_some (λ (r : FactorRecord). IsSome r.leaf) (get c.args.stored.now.factors c.args.label.now)
    c.requires.known in
    let home = there_some (λ (stash : Stash). IsSome stash.payload) c.args.stored.now.stash c.requires.home in
    let made = c.in_ok-tree.ensures.value row home.0 at home.1 in
    let same : c.in_ok-tree.tree ≡ tree = from_some c.in_ok-tree.tree tree (sym made.names ∙ names) in
    subst (λ (r : Result Unit StoreFault). IfErr r (IsResetFault c.args.account.now c.args.label.now row.edition tree))
    (sym c.ended_reset.ensures.value)
    (leaf_fault_only c.args.account.now c.args.label.now row.edition tree c.in_ok-tree.name c.reset_leaf.result
    (c.in_ok-tree.ensures.named row at)
    (subst (λ (n : ℕ). IfErr c.reset_leaf.result (IsTryFault n)) same c.reset_leaf.ensures.only))
