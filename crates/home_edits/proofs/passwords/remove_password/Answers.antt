use Rattle.std.proofs.Common.{[], ◌∷◌, sym, subst, ◌≡◌, IsOk, IsErr, None, Some, ap, inl, inr, is_ok, is_err}
use Rattle.std.specs.FinMap.{get}
use Rattle.factor_files.specs.declared.factor.FactorRecord.{FactorRecord}
use Rattle.share_api.specs.declared.step.Write.TheVariants.{Put, Remove}
use Rattle.home_edits.proofs.CostLemmas.{costs_none, costs_tried, stash_suits, removal_suits}
use Rattle.home_edits.proofs.CoherentEdits.{removed_coherent}
use Rattle.stored_home.specs.Coherent.{IsCoherent}
use Rattle.stored_home.specs.Loaded.{Rows}
use Rattle.stash_format.specs.declared.contents.Contents.{Contents as Stash}
use Rattle.home_edits.specs.Removals.{LosesFactor, RemovesFactor}
use Rattle.home_edits.proofs.Edited.{edits_none, err_not_ok, ok_not_fault, memory_not_failed, there_gives, there_some}
use Rattle.home_edits.proofs.FactorRemoved.{remove_edits}
use Rattle.secret_stash.specs.Edits.{without_block}
use Rattle.home_edits.proofs.ShortLemmas.{short_as}
use Rattle.home_edits.proofs.passwords.remove_password.Goals as goal

-- there was no memory
pub returns-in_err-stash-clause-edits : goal.returns-in_err-stash-clause-edits
returns-in_err-stash-clause-edits g c =
    edits_none (g.S.Share.seen c.args.share.now) c.args.account.now c.args.stored.now c.args.stored.now _ _
    (RemovesFactor c.args.label.now)
    (err_not_ok c.from_residual.result c.from_residual.ensures.0) (memory_not_failed c.from_residual.result
    c.from_residual.ensures.1)

-- a step failed
pub returns-in_err-put_then_remove-clause-edits : goal.returns-in_err-put_then_remove-clause-edits
returns-in_err-put_then_remove-clause-edits g c =
    let known = there_some (λ (row : FactorRecord). row.leaf ≡ None) (get c.args.stored.now.factors c.args.label.now)
    c.requires.known in
    let loses = there_gives (LosesFactor c.args.label.now) c.args.stored.now.stash c.in-Some.stash c.in-Some.is
    c.requires.home in
    let none = err_not_ok c.from_residual-in_err-put_then_remove.result
    c.from_residual-in_err-put_then_remove.ensures.0 in
    remove_edits (g.S.Share.seen c.args.share.now) (g.S.Share.seen c.put_then_remove.new.share) c.args.account.now
    c.args.stored.now
    c.args.stored.now c.in-Some.stash known.0 _ _ (IsOk c.put_then_remove.result) (IsErr c.put_then_remove.result)
    c.args.label.now c.in_ok-stash.put c.record_of-old.result c.requires.plain c.in-Some.is loses.there known.1 known.2
    c.in_ok-stash.ensures.put (c.record_of-old.ensures.value known.0 known.1) (λ o. absurd (none o))
    c.put_then_remove.ensures.tried (λ o. absurd (none o)) (λ _. ap is_err c.in_err-put_then_remove.was)

-- both steps were done
pub returns-clause-edits : goal.returns-clause-edits
returns-clause-edits g c =
    let known = there_some (λ (row : FactorRecord). row.leaf ≡ None) (get c.args.stored.now.factors c.args.label.now)
    c.requires.known in
    let loses = there_gives (LosesFactor c.args.label.now) c.args.stored.now.stash c.in-Some.stash c.in-Some.is
    c.requires.home in
    remove_edits (g.S.Share.seen c.args.share.now) (g.S.Share.seen c.put_then_remove.new.share) c.args.account.now
    c.args.stored.now
    _ c.in-Some.stash known.0 _ _ (IsOk c.put_then_remove.result) (IsErr c.put_then_remove.result)
    c.args.label.now c.in_ok-stash.put c.record_of-old.result c.requires.plain c.in-Some.is loses.there known.1 known.2
    c.in_ok-stash.ensures.put (c.record_of-old.ensures.value known.0 known.1)
    (λ _ i. record c.args.stored.now { stash = Some (c.in_ok-stash.ensures.stash i); factors = c.remove.ensures i })
    c.put_then_remove.ensures.tried (λ _. ap is_ok c.in_ok-put_then_remove.was) (λ f. absurd (ok_not_fault _ _ f))

-- the old record is the account's
pub put_then_remove-requires-clause-old_own : goal.put_then_remove-requires-clause-old_own
put_then_remove-requires-clause-old_own g c =
    let known = there_some (λ (row : FactorRecord). row.leaf ≡ None) (get c.args.stored.now.factors c.args.label.now)
    c.requires.known in (
      c.args.account.now,
      c.requires.own,
      inr (inl (
        c.args.label.now,
        known.0.edition,
        c.record_of-old.ensures.value
            known.0 known.1,
      )),
    )

-- the payload is as it was
pub returns-clause-short : goal.returns-clause-short
returns-clause-short g c = λ _.
    short_as (without_block c.in-Some.stash c.args.label.now) c.in_ok-stash.stash c.in_ok-stash.ensures.stash
    (there_gives (LosesFactor c.args.label.now) c.args.stored.now.stash c.in-Some.stash c.in-Some.is
    c.requires.home).short

-- nothing was put
pub returns-in_err-stash-clause-cost : goal.returns-in_err-stash-clause-cost
returns-in_err-stash-clause-cost g c = λ cost. costs_none (g.S.Share.seen c.args.share.now) c.args.account.now cost

-- no factor's record was put
pub returns-in_err-put_then_remove-clause-cost : goal.returns-in_err-put_then_remove-clause-cost
returns-in_err-put_then_remove-clause-cost g c = λ cost.
    costs_tried (g.S.Share.seen c.args.share.now) (g.S.Share.seen c.put_then_remove.new.share) c.args.account.now cost
    (Put c.in_ok-stash.put.name c.in_ok-stash.put.bytes ∷ Remove c.record_of-old.result ∷ []) (IsOk c.put_then_remove.result)
    (IsErr c.put_then_remove.result) c.put_then_remove.ensures.tried (
      stash_suits c.args.account.now c.in_ok-stash.put.name c.in_ok-stash.put.bytes cost c.in_ok-stash.ensures.put.0,
      (removal_suits c.args.account.now c.record_of-old.result cost, tt),
    )

pub returns-clause-cost : goal.returns-clause-cost
returns-clause-cost g c = λ cost.
    costs_tried (g.S.Share.seen c.args.share.now) (g.S.Share.seen c.put_then_remove.new.share) c.args.account.now cost
    (Put c.in_ok-stash.put.name c.in_ok-stash.put.bytes ∷ Remove c.record_of-old.result ∷ []) (IsOk c.put_then_remove.result)
    (IsErr c.put_then_remove.result) c.put_then_remove.ensures.tried (
      stash_suits c.args.account.now c.in_ok-stash.put.name c.in_ok-stash.put.bytes cost c.in_ok-stash.ensures.put.0,
      (removal_suits c.args.account.now c.record_of-old.result cost, tt),
    )

-- what is left fits together
pub returns-clause-coherent : goal.returns-clause-coherent
returns-clause-coherent g c = λ left was.
    let loses = there_gives (LosesFactor c.args.label.now) c.args.stored.now.stash c.in-Some.stash c.in-Some.is
    c.requires.home in
    subst (λ (pair : Stash × Rows). IsCoherent c.args.account.now
    (record c.args.stored.now { stash = Some pair.0; factors = pair.1 }))
    (λ i. (sym c.in_ok-stash.ensures.stash i, sym c.remove.ensures i))
    (removed_coherent c.args.account.now c.args.stored.now was c.in-Some.stash c.in-Some.is c.args.label.now loses.there
    loses.others left)
