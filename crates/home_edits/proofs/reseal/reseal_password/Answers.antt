use Rattle.std.proofs.Common.{[], ◌∷◌, sym, subst, refl, IsOk, IsErr, Some, ap, inl, is_ok, is_err}
use Rattle.std.specs.Prelude.{IsSomeAnd}
use Rattle.std.specs.FinMap.{get}
use Rattle.factor_files.specs.declared.factor.FactorRecord.{FactorRecord}
use Rattle.stash_format.specs.declared.contents.Contents.{Contents as Stash}
use Rattle.share_api.specs.declared.step.Write.TheVariants.{Put}
use Rattle.home_edits.proofs.CostLemmas.{costs_none, costs_tried, stash_suits}
use Rattle.home_edits.proofs.CoherentEdits.{resealed_coherent}
use Rattle.stored_home.specs.Coherent.{IsCoherent}
use Rattle.home_edits.specs.Reseals.{TakesReseal, Reseals, with_resealed}
use Rattle.home_edits.proofs.Edited.{edits_none, err_not_ok, ok_not_fault, memory_not_failed, there_some}
use Rattle.home_edits.proofs.ResealEdits.{reseal_edits}
use Rattle.home_edits.proofs.ShortLemmas.{short_as}
use Rattle.home_edits.proofs.reseal.reseal_password.Goals as goal

-- there was no memory
pub returns-in_err-made-clause-edits : goal.returns-in_err-made-clause-edits
returns-in_err-made-clause-edits g c =
    edits_none (g.S.Share.seen c.args.share.now) c.args.account.now c.args.stored.now c.args.stored.now _ _
    (Reseals c.args.account.now c.args.label.now c.args.key.now c.args.main.now)
    (err_not_ok c.from_residual.result c.from_residual.ensures.0) (memory_not_failed c.from_residual.result
    c.from_residual.ensures.1)

-- the put failed
pub returns-in_err-put_one-clause-edits : goal.returns-in_err-put_one-clause-edits
returns-in_err-put_one-clause-edits g c =
    let row = there_some (λ (r : FactorRecord). IsSomeAnd c.args.stored.now.stash (TakesReseal c.args.label.now r))
    (get c.args.stored.now.factors c.args.label.now) c.requires.known in
    let stash = there_some (TakesReseal c.args.label.now row.0) c.args.stored.now.stash row.2 in
    let made = c.in_ok-made.ensures.value row.0 stash.0 row.1 stash.1 in
    let none = err_not_ok c.from_residual-in_err-put_one.result c.from_residual-in_err-put_one.ensures.0 in
    reseal_edits (g.S.Share.seen c.args.share.now) (g.S.Share.seen c.put_one.new.share) c.args.account.now
    c.args.stored.now
    c.args.stored.now stash.0 row.0 _ _ (IsOk c.put_one.result) (IsErr c.put_one.result) c.args.label.now
    c.args.key.now c.args.main.now c.args.iv
    c.in_ok-made.put c.requires.plain stash.1 row.1 stash.2 made.put_is (λ o. absurd (none o)) c.put_one.ensures.tried
    (λ o. absurd (none o))
    (λ _. ap is_err c.in_err-put_one.was)

-- the put was done
pub returns-clause-edits : goal.returns-clause-edits
returns-clause-edits g c =
    let row = there_some (λ (r : FactorRecord). IsSomeAnd c.args.stored.now.stash (TakesReseal c.args.label.now r))
    (get c.args.stored.now.factors c.args.label.now) c.requires.known in
    let stash = there_some (TakesReseal c.args.label.now row.0) c.args.stored.now.stash row.2 in
    let made = c.in_ok-made.ensures.value row.0 stash.0 row.1 stash.1 in
    reseal_edits (g.S.Share.seen c.args.share.now) (g.S.Share.seen c.put_one.new.share) c.args.account.now
    c.args.stored.now
    _ stash.0 row.0 _ _ (IsOk c.put_one.result) (IsErr c.put_one.result) c.args.label.now c.args.key.now
    c.args.main.now c.args.iv
    c.in_ok-made.put c.requires.plain stash.1 row.1 stash.2 made.put_is
    (λ _. ap (λ (s : Stash). record c.args.stored.now { stash = Some s }) made.made_is)
    c.put_one.ensures.tried (λ _. ap is_ok c.in_ok-put_one.was) (λ f. absurd (ok_not_fault _ _ f))

-- what is loaded is what was made
pub returns-clause-ok : goal.returns-clause-ok
returns-clause-ok g c =
    λ o row stash at is. ap (λ (s : Stash). record c.args.stored.now { stash = Some s })
    (c.in_ok-made.ensures.value row stash at is).made_is

-- the stash is the account's
pub put_one-requires-clause-own : goal.put_one-requires-clause-own
put_one-requires-clause-own g c =
    let row = there_some (λ (r : FactorRecord). IsSomeAnd c.args.stored.now.stash (TakesReseal c.args.label.now r))
    (get c.args.stored.now.factors c.args.label.now) c.requires.known in
    let stash = there_some (TakesReseal c.args.label.now row.0) c.args.stored.now.stash row.2 in
    let made = c.in_ok-made.ensures.value row.0 stash.0 row.1 stash.1 in
    (c.args.account.now, c.requires.own, inl made.put_is.0)

pub put_one-requires-clause-size : goal.put_one-requires-clause-size
put_one-requires-clause-size g c =
    let row = there_some (λ (r : FactorRecord). IsSomeAnd c.args.stored.now.stash (TakesReseal c.args.label.now r))
    (get c.args.stored.now.factors c.args.label.now) c.requires.known in
    let stash = there_some (TakesReseal c.args.label.now row.0) c.args.stored.now.stash row.2 in
    let made = c.in_ok-made.ensures.value row.0 stash.0 row.1 stash.1 in
    made.put_is.2

-- the payload is as it was
pub returns-clause-short : goal.returns-clause-short
returns-clause-short g c =
    let row = there_some (λ (r : FactorRecord). IsSomeAnd c.args.stored.now.stash (TakesReseal c.args.label.now r))
    (get c.args.stored.now.factors c.args.label.now) c.requires.known in
    let stash = there_some (TakesReseal c.args.label.now row.0) c.args.stored.now.stash row.2 in
    let made = c.in_ok-made.ensures.value row.0 stash.0 row.1 stash.1 in
    λ _. short_as (with_resealed stash.0 c.args.label.now row.0 c.args.key.now c.args.main.now c.args.iv)
    c.in_ok-made.made
    made.made_is stash.2.short

-- nothing was put
pub returns-in_err-made-clause-cost : goal.returns-in_err-made-clause-cost
returns-in_err-made-clause-cost g c = λ cost. costs_none (g.S.Share.seen c.args.share.now) c.args.account.now cost

-- no factor's record was put
pub returns-in_err-put_one-clause-cost : goal.returns-in_err-put_one-clause-cost
returns-in_err-put_one-clause-cost g c = λ cost.
    let row = there_some (λ (r : FactorRecord). IsSomeAnd c.args.stored.now.stash (TakesReseal c.args.label.now r))
    (get c.args.stored.now.factors c.args.label.now) c.requires.known in
    let stash = there_some (TakesReseal c.args.label.now row.0) c.args.stored.now.stash row.2 in
    let made = c.in_ok-made.ensures.value row.0 stash.0 row.1 stash.1 in
    costs_tried (g.S.Share.seen c.args.share.now) (g.S.Share.seen c.put_one.new.share) c.args.account.now cost
    (Put c.in_ok-made.put.name c.in_ok-made.put.bytes ∷ []) (IsOk c.put_one.result)
    (IsErr c.put_one.result) c.put_one.ensures.tried
    (stash_suits c.args.account.now c.in_ok-made.put.name c.in_ok-made.put.bytes cost made.put_is.0, tt)

pub returns-clause-cost : goal.returns-clause-cost
returns-clause-cost g c = λ cost.
    let row = there_some (λ (r : FactorRecord). IsSomeAnd c.args.stored.now.stash (TakesReseal c.args.label.now r))
    (get c.args.stored.now.factors c.args.label.now) c.requires.known in
    let stash = there_some (TakesReseal c.args.label.now row.0) c.args.stored.now.stash row.2 in
    let made = c.in_ok-made.ensures.value row.0 stash.0 row.1 stash.1 in
    costs_tried (g.S.Share.seen c.args.share.now) (g.S.Share.seen c.put_one.new.share) c.args.account.now cost
    (Put c.in_ok-made.put.name c.in_ok-made.put.bytes ∷ []) (IsOk c.put_one.result)
    (IsErr c.put_one.result) c.put_one.ensures.tried
    (stash_suits c.args.account.now c.in_ok-made.put.name c.in_ok-made.put.bytes cost made.put_is.0, tt)

-- the block has the record's edition
pub returns-clause-coherent : goal.returns-clause-coherent
returns-clause-coherent g c = λ was.
    let row = there_some (λ (r : FactorRecord). IsSomeAnd c.args.stored.now.stash (TakesReseal c.args.label.now r))
    (get c.args.stored.now.factors c.args.label.now) c.requires.known in
    let stash = there_some (TakesReseal c.args.label.now row.0) c.args.stored.now.stash row.2 in
    let made = c.in_ok-made.ensures.value row.0 stash.0 row.1 stash.1 in
    subst (λ (s : Stash). IsCoherent c.args.account.now (record c.args.stored.now { stash = Some s }))
    (sym made.made_is)
    (resealed_coherent c.args.account.now c.args.stored.now was stash.0 stash.1 c.args.label.now _ row.0 row.1 refl
    stash.2.there)
