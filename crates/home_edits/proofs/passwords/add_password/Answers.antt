use Rattle.std.proofs.Common.{sym, subst, [], ◌∷◌, refl, ◌≡◌, IsOk, IsErr, Some}
use Rattle.std.specs.Prelude.{IsErrOf}
use Rattle.share_api.specs.declared.step.Write.TheVariants.{Put}
use Rattle.stored_home.specs.declared.fault.StoreFault.TheVariants as faults
use Rattle.stash_format.specs.declared.contents.Contents.{Contents as Stash}
use Rattle.stored_home.specs.Coherent.{IsCoherent}
use Rattle.stored_home.specs.Loaded.{Rows}
use Rattle.home_edits.specs.Passwords.{SetsPassword, TakesFactor, password_row, password_block, with_password}
use Rattle.home_edits.proofs.CoherentEdits.{coherent_stays, set_coherent}
use Rattle.home_edits.proofs.StashLemmas.{both_with}
use Rattle.home_edits.proofs.CostLemmas.{costs_none, costs_tried, row_suits, stash_suits}
use Rattle.home_edits.proofs.Edited.{edits_none, err_not_ok, memory_not_failed, fault_is_err, ok_gives, there_gives}
use Rattle.home_edits.proofs.PasswordEdits.{add_edits}
use Rattle.home_edits.proofs.ShortLemmas.{short_stays, short_as}
use Rattle.home_edits.proofs.passwords.add_password.Goals as goal

-- there was no memory
pub returns-in_err-puts-clause-edits : goal.returns-in_err-puts-clause-edits
returns-in_err-puts-clause-edits g c =
    edits_none (g.S.Share.seen c.args.share.now) c.args.account.now c.args.stored.now c.args.stored.now _ _
    (SetsPassword c.args.label.now c.args.derived.now c.args.main.now)
    (err_not_ok c.from_residual.result c.from_residual.ensures.0) (memory_not_failed c.from_residual.result
    c.from_residual.ensures.1)

-- the puts were tried
pub returns-clause-edits : goal.returns-clause-edits
returns-clause-edits g c =
    add_edits (g.S.Share.seen c.args.share.now) (g.S.Share.seen c.commit.new.share) c.args.account.now
    c.args.stored.now c.commit.new.stored
    c.in-Some.stash (IsOk c.commit.result) (IsErrOf c.commit.result faults.Failed) (IsOk c.commit.result)
    (IsErr c.commit.result)
    c.args.label.now c.args.derived.now c.args.main.now c.args.iv c.in_ok-puts.puts c.requires.plain c.in-Some.is
    c.requires.label
    (there_gives (TakesFactor c.args.label.now) c.args.stored.now.stash c.in-Some.stash c.in-Some.is c.requires.home)
    c.requires.absent c.in_ok-puts.ensures.value
    (ok_gives c.commit.result (c.commit.new.stored ≡ record c.args.stored.now
    { stash = Some c.in_ok-puts.puts.stash; factors = c.in_ok-puts.puts.factors })
    c.commit.ensures.ok)
    c.commit.ensures.tried (λ o. o) (fault_is_err c.commit.result faults.Failed)

-- nothing was put
pub returns-in_err-puts-clause-cost : goal.returns-in_err-puts-clause-cost
returns-in_err-puts-clause-cost g c = costs_none (g.S.Share.seen c.args.share.now) c.args.account.now
    c.args.derived.now.cost

-- the record has the cost that was given
pub returns-clause-cost : goal.returns-clause-cost
returns-clause-cost g c =
    let puts = c.in_ok-puts.puts in
    let are = c.in_ok-puts.ensures.value in
    costs_tried (g.S.Share.seen c.args.share.now) (g.S.Share.seen c.commit.new.share) c.args.account.now
    c.args.derived.now.cost
    (Put puts.row_put.name puts.row_put.bytes ∷ Put puts.stash_put.name puts.stash_put.bytes ∷ [])
    (IsOk c.commit.result) (IsErr c.commit.result) c.commit.ensures.tried (
      row_suits c.args.account.now puts.row_put.name puts.row_put.bytes
          (password_row c.args.label.now c.in-Some.stash.next c.args.derived.now) c.args.derived.now.cost are.row_put.1
          refl,
      (
        stash_suits c.args.account.now puts.stash_put.name puts.stash_put.bytes c.args.derived.now.cost are.stash_put.0,
        tt,
      ),
    )

-- the payload is as it was
pub returns-clause-short : goal.returns-clause-short
returns-clause-short g c =
    short_stays c.commit.result c.args.stored.now c.commit.new.stored
    (record c.args.stored.now { stash = Some c.in_ok-puts.puts.stash; factors = c.in_ok-puts.puts.factors })
    c.commit.ensures.ok c.commit.ensures.err
    (short_as (with_password c.in-Some.stash c.args.label.now c.args.derived.now c.args.main.now c.args.iv)
    c.in_ok-puts.puts.stash
    c.in_ok-puts.ensures.value.stash_is
    (there_gives (TakesFactor c.args.label.now) c.args.stored.now.stash c.in-Some.stash c.in-Some.is
    c.requires.home).short)

-- the new block and its record fit together
pub returns-clause-coherent : goal.returns-clause-coherent
returns-clause-coherent g c = λ was.
    let puts = c.in_ok-puts.puts in
    let are = c.in_ok-puts.ensures.value in
    let takes = there_gives (TakesFactor c.args.label.now) c.args.stored.now.stash c.in-Some.stash c.in-Some.is
    c.requires.home in
    coherent_stays c.args.account.now c.commit.result c.args.stored.now c.commit.new.stored
    (record c.args.stored.now { stash = Some puts.stash; factors = puts.factors })
    c.commit.ensures.ok c.commit.ensures.err
    (subst (λ (pair : Stash × Rows). IsCoherent c.args.account.now
    (record c.args.stored.now { stash = Some pair.0; factors = pair.1 }))
    (λ i. (sym are.stash_is i, sym are.factors_are i))
    (set_coherent c.args.account.now c.args.stored.now was c.in-Some.stash c.in-Some.is
    (with_password c.in-Some.stash c.args.label.now c.args.derived.now c.args.main.now c.args.iv) c.args.label.now
    (password_block c.in-Some.stash c.args.label.now c.args.derived.now c.args.main.now c.args.iv)
    (password_row c.args.label.now c.in-Some.stash.next c.args.derived.now) refl refl
    (both_with c.in-Some.stash c.in-Some.stash.payload c.args.label.now
    (password_block c.in-Some.stash c.args.label.now c.args.derived.now c.args.main.now c.args.iv) takes.there)
    takes.short
    (record {
      plain = record {
        label = c.requires.label;
        edition = takes.from;
        cost = c.requires.least;
        most = c.requires.most;
        leaf = tt;
      };
      label_is = refl;
      edition_is = refl;
    }) refl refl takes.there))
    was
