use Rattle.std.proofs.Common.{[], ◌∷◌, sym, subst, IsOk, IsErr, Some, ap, is_ok, is_err, arith}
use Rattle.stash_format.specs.declared.contents.Contents.{Contents as Stash}
use Rattle.share_api.specs.declared.step.Write.TheVariants.{Put}
use Rattle.home_edits.proofs.CostLemmas.{costs_none, costs_tried, stash_suits}
use Rattle.home_edits.proofs.CoherentEdits.{made_coherent}
use Rattle.stored_home.specs.Coherent.{IsCoherent}
use Rattle.home_edits.specs.Homes.{MakesHome}
use Rattle.home_edits.proofs.Edited.{edits_none, err_not_ok, ok_not_fault, memory_not_failed}
use Rattle.home_edits.proofs.HomeEdits.{create_edits}
use Rattle.secret_stash.specs.Edits.{new_stash}
use Rattle.home_edits.proofs.ShortLemmas.{short_as}
use Rattle.home_edits.proofs.home.create.Goals as goal

-- there was no memory
pub returns-in_err-stash-clause-edits : goal.returns-in_err-stash-clause-edits
returns-in_err-stash-clause-edits g c =
    edits_none (g.S.Share.seen c.args.share.now) c.args.account.now c.args.stored.now c.args.stored.now _ _ MakesHome
    (err_not_ok c.from_residual.result c.from_residual.ensures.0) (memory_not_failed c.from_residual.result
    c.from_residual.ensures.1)

-- the put failed
pub returns-in_err-put_one-clause-edits : goal.returns-in_err-put_one-clause-edits
returns-in_err-put_one-clause-edits g c =
    let none = err_not_ok c.from_residual-in_err-put_one.result c.from_residual-in_err-put_one.ensures.0 in
    create_edits (g.S.Share.seen c.args.share.now) (g.S.Share.seen c.put_one.new.share) c.args.account.now
    c.args.stored.now
    c.args.stored.now _ _ (IsOk c.put_one.result) (IsErr c.put_one.result) c.in_ok-stash.put c.requires.plain
    c.requires.absent
    c.in_ok-stash.ensures.put (λ o. absurd (none o)) c.put_one.ensures.tried (λ o. absurd (none o))
    (λ _. ap is_err c.in_err-put_one.was)

-- the put was done
pub returns-clause-edits : goal.returns-clause-edits
returns-clause-edits g c =
    create_edits (g.S.Share.seen c.args.share.now) (g.S.Share.seen c.put_one.new.share) c.args.account.now
    c.args.stored.now
    _ _ _ (IsOk c.put_one.result) (IsErr c.put_one.result) c.in_ok-stash.put c.requires.plain c.requires.absent
    c.in_ok-stash.ensures.put
    (λ _. ap (λ (s : Stash). record c.args.stored.now { stash = Some s }) c.in_ok-stash.ensures.stash)
    c.put_one.ensures.tried (λ _. ap is_ok c.in_ok-put_one.was) (λ f. absurd (ok_not_fault _ _ f))

-- a new home has no payload
pub returns-clause-short : goal.returns-clause-short
returns-clause-short g c = λ _. short_as (new_stash c.args.account.now) c.in_ok-stash.stash c.in_ok-stash.ensures.stash
    (omega arith)

-- nothing was put
pub returns-in_err-stash-clause-cost : goal.returns-in_err-stash-clause-cost
returns-in_err-stash-clause-cost g c = λ cost. costs_none (g.S.Share.seen c.args.share.now) c.args.account.now cost

-- no factor's record was put
pub returns-in_err-put_one-clause-cost : goal.returns-in_err-put_one-clause-cost
returns-in_err-put_one-clause-cost g c = λ cost.
    costs_tried (g.S.Share.seen c.args.share.now) (g.S.Share.seen c.put_one.new.share) c.args.account.now cost
    (Put c.in_ok-stash.put.name c.in_ok-stash.put.bytes ∷ []) (IsOk c.put_one.result)
    (IsErr c.put_one.result) c.put_one.ensures.tried
    (stash_suits c.args.account.now c.in_ok-stash.put.name c.in_ok-stash.put.bytes cost c.in_ok-stash.ensures.put.0, tt)

pub returns-clause-cost : goal.returns-clause-cost
returns-clause-cost g c = λ cost.
    costs_tried (g.S.Share.seen c.args.share.now) (g.S.Share.seen c.put_one.new.share) c.args.account.now cost
    (Put c.in_ok-stash.put.name c.in_ok-stash.put.bytes ∷ []) (IsOk c.put_one.result)
    (IsErr c.put_one.result) c.put_one.ensures.tried
    (stash_suits c.args.account.now c.in_ok-stash.put.name c.in_ok-stash.put.bytes cost c.in_ok-stash.ensures.put.0, tt)

-- a new home fits together
pub returns-clause-coherent : goal.returns-clause-coherent
returns-clause-coherent g c = λ was.
    subst (λ (s : Stash). IsCoherent c.args.account.now (record c.args.stored.now { stash = Some s }))
    (sym c.in_ok-stash.ensures.stash)
    (made_coherent c.args.account.now c.args.stored.now was c.requires.absent)
