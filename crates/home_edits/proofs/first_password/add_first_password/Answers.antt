use Rattle.std.proofs.Common.{sym, subst, [], ◌∷◌, refl, ◌≡◌, IsOk, IsErr, Some}
use Rattle.std.specs.Prelude.{IsErrOf}
use Rattle.share_api.specs.declared.step.Write.TheVariants.{Put}
use Rattle.stored_home.specs.declared.fault.StoreFault.TheVariants as faults
use Rattle.stash_format.specs.declared.contents.Contents.{Contents as Stash}
use Rattle.stored_home.specs.Coherent.{IsCoherent}
use Rattle.stored_home.specs.Loaded.{Rows}
use Rattle.home_edits.specs.FirstPasswords.{SetsFirstPassword, TakesFirst}
use Rattle.home_edits.proofs.CoherentEdits.{coherent_stays, first_coherent}
use Rattle.home_edits.proofs.StashLemmas.{both_with}
use Rattle.home_edits.specs.Passwords.{password_row, password_block}
use Rattle.home_edits.proofs.CostLemmas.{costs_none, costs_tried, row_suits, stash_suits}
use Rattle.home_edits.proofs.Edited.{edits_none, err_not_ok, memory_not_failed, fault_is_err, ok_gives, there_gives}
use Rattle.home_edits.proofs.FirstEdits.{first_edits}
use Rattle.stored_home.specs.Changes.{stash_with}
use Rattle.home_edits.proofs.ShortLemmas.{short_stays, short_as}
use Rattle.home_edits.proofs.first_password.add_first_password.Goals as goal

-- there was no memory
pub returns-in_err-puts-clause-edits : goal.returns-in_err-puts-clause-edits
returns-in_err-puts-clause-edits g c =
    edits_none (g.S.Share.seen c.args.share.now) c.args.account.now c.args.stored.now c.args.stored.now _ _
    (SetsFirstPassword c.args.label.now c.args.derived.now c.args.keys.now.main c.args.keys.now.vault)
    (err_not_ok c.from_residual.result c.from_residual.ensures.0) (memory_not_failed c.from_residual.result
    c.from_residual.ensures.1)

-- the puts were tried
pub returns-clause-edits : goal.returns-clause-edits
returns-clause-edits g c =
    first_edits (g.S.Share.seen c.args.share.now) (g.S.Share.seen c.commit.new.share) c.args.account.now
    c.args.stored.now c.commit.new.stored
    c.in-Some.stash (IsOk c.commit.result) (IsErrOf c.commit.result faults.Failed) (IsOk c.commit.result)
    (IsErr c.commit.result)
    c.args.label.now c.args.derived.now c.args.keys.now.main c.args.keys.now.vault c.args.ivs.now.block
    c.in_ok-puts.puts
    c.requires.plain c.in-Some.is c.requires.label
    (there_gives (TakesFirst c.args.label.now) c.args.stored.now.stash c.in-Some.stash c.in-Some.is c.requires.home)
    c.in_ok-puts.ensures.first c.in_ok-puts.ensures.value
    (ok_gives c.commit.result (c.commit.new.stored ≡ record c.args.stored.now
    { stash = Some c.in_ok-puts.puts.stash; factors = c.in_ok-puts.puts.factors })
    c.commit.ensures.ok)
    c.commit.ensures.tried (λ o. o) (fault_is_err c.commit.result faults.Failed)

-- nothing was put
pub returns-in_err-puts-clause-cost : goal.returns-in_err-puts-clause-cost
returns-in_err-puts-clause-cost g c = costs_none (g.S.Share.seen c.args.share.now) c.args.account.now
    c.args.derived.now.cost

-- the record has the cost that was given
pub returns-clause-cost : goal.returns-clause-cost
returns-clause-cost g c =
    let puts = c.in_ok-puts.puts in
    let are = c.in_ok-puts.ensures.value in
    costs_tried (g.S.Share.seen c.args.share.now) (g.S.Share.seen c.commit.new.share) c.args.account.now
    c.args.derived.now.cost
    (Put puts.row_put.name puts.row_put.bytes ∷ Put puts.stash_put.name puts.stash_put.bytes ∷ [])
    (IsOk c.commit.result) (IsErr c.commit.result) c.commit.ensures.tried (
      row_suits c.args.account.now puts.row_put.name puts.row_put.bytes
          (password_row c.args.label.now c.in-Some.stash.next c.args.derived.now) c.args.derived.now.cost are.row_put.1
          refl,
      (
        stash_suits c.args.account.now puts.stash_put.name puts.stash_put.bytes c.args.derived.now.cost are.stash_put.0,
        tt,
      ),
    )

-- the payload that was sealed is short
pub returns-clause-short : goal.returns-clause-short
returns-clause-short g c =
    let first = c.in_ok-puts.ensures.first in
    short_stays c.commit.result c.args.stored.now c.commit.new.stored
    (record c.args.stored.now { stash = Some c.in_ok-puts.puts.stash; factors = c.in_ok-puts.puts.factors })
    c.commit.ensures.ok c.commit.ensures.err
    (short_as (stash_with c.in-Some.stash (Some first.payload) c.args.label.now
    (password_block c.in-Some.stash c.args.label.now c.args.derived.now c.args.keys.now.main c.args.ivs.now.block))
    c.in_ok-puts.puts.stash first.made_is first.short)

-- the first block and its record fit together
pub returns-clause-coherent : goal.returns-clause-coherent
returns-clause-coherent g c = λ few was.
    let puts = c.in_ok-puts.puts in
    let are = c.in_ok-puts.ensures.value in
    let first = c.in_ok-puts.ensures.first in
    let takes = there_gives (TakesFirst c.args.label.now) c.args.stored.now.stash c.in-Some.stash c.in-Some.is
    c.requires.home in
    let block = password_block c.in-Some.stash c.args.label.now c.args.derived.now c.args.keys.now.main
    c.args.ivs.now.block in
    coherent_stays c.args.account.now c.commit.result c.args.stored.now c.commit.new.stored
    (record c.args.stored.now { stash = Some puts.stash; factors = puts.factors })
    c.commit.ensures.ok c.commit.ensures.err
    (subst (λ (pair : Stash × Rows). IsCoherent c.args.account.now
    (record c.args.stored.now { stash = Some pair.0; factors = pair.1 }))
    (λ i. (sym first.made_is i, sym are.factors_are i))
    (first_coherent c.args.account.now c.args.stored.now was c.in-Some.stash c.in-Some.is
    (stash_with c.in-Some.stash (Some first.payload) c.args.label.now block) c.args.label.now block
    (password_row c.args.label.now c.in-Some.stash.next c.args.derived.now) refl refl
    (both_with c.in-Some.stash (Some first.payload) c.args.label.now block refl) first.short
    (record {
      plain = record {
        label = c.requires.label;
        edition = c.prepare_first.ensures.from;
        cost = c.requires.least;
        most = c.requires.most;
        leaf = tt;
      };
      label_is = refl;
      edition_is = refl;
    }) refl refl takes.bare few))
    was
