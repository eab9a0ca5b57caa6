use Rattle.std.proofs.Common.{◌+◌, Bool, Option, Some, Ok, Err, refl, sym, ap, ◌∙◌, arith, length}
use Rattle.std.proofs.lemmas.Result.{err_from_is_err_and}
use Rattle.home_recovery.proofs.CallLemmas.{no_err}
use Rattle.share_api.specs.Contents.{Bytes}
use Rattle.stored_home.specs.declared.fault.StoreFault.TheVariants as faults
use Rattle.turn_secrets.proofs.Looking.{looks_none, looks_then, looks_then_err, looks_then_starved}
use Rattle.turn_pins.specs.Clearing.{TellsCounted, TellsFirst}
use Rattle.turn_pins.proofs.FirstCounted.{NoneBefore, passed, found_first}
use Rattle.turn_pins.proofs.clearing.first_counted.Goals as goal

pub rows-init : goal.rows-init
rows-init g c = record {
  looks = looks_none (g.S.Share.seen c.args.share.now) ⊥ 0 _ (λ f. f) (λ contents. refl);
  goes = g.met.S.Share.goes_nowhere c.args.share.now;
}

-- a look has a fault
pub returns-in_err-is_counted-clause-looks : goal.returns-in_err-is_counted-clause-looks
returns-in_err-is_counted-clause-looks g c =
    let p = err_from_is_err_and c.from_residual.result c.from_residual.ensures.1 in
    let inside = c.rows-test.true in
    rw (p.1, p.2) (looks_then_err {A = Bool} {B = Option Bytes} (g.S.Share.seen c.args.share.now)
    (g.S.Share.seen c.rows.share) (g.S.Share.seen c.is_counted.new.share) c.in_err-is_counted.field-0.0 ⊥
    c.rows.row-index 1 (length c.args.rows.now)
    (λ contents. NoneBefore c.args.rows.now contents c.rows.row-index)
    (TellsCounted c.row-item.result.1 (Err c.in_err-is_counted.field-0.0))
    (TellsFirst c.args.rows.now (Err c.in_err-is_counted.field-0.0))
    c.rows.invariant.looks c.in_err-is_counted.ensures.looks (omega (arith, inside)) (λ contents told. tt))

-- there is no memory for the label
pub returns-in_err-copy-clause-looks : goal.returns-in_err-copy-clause-looks
returns-in_err-copy-clause-looks g c =
    let p = err_from_is_err_and c.from_residual-in_err-copy.result c.from_residual-in_err-copy.ensures.1 in
    let inside = c.rows-test.true in
    rw (p.1, p.2) (looks_then_starved {A = Option Bytes} (g.S.Share.seen c.args.share.now)
    (g.S.Share.seen c.rows.share) (g.S.Share.seen c.is_counted.new.share) ⊥ _ c.rows.row-index 1
    (length c.args.rows.now) (λ contents. NoneBefore c.args.rows.now contents c.rows.row-index)
    (TellsCounted c.row-item.result.1 (Ok c.in_ok-is_counted.field-0))
    (TellsFirst c.args.rows.now (Err faults.NoMemory)) c.rows.invariant.looks c.in_ok-is_counted.ensures.looks
    (omega (arith, inside)) (λ contents. tt))

-- the first one
pub returns-then-branch-clause-looks : goal.returns-then-branch-clause-looks
returns-then-branch-clause-looks g c =
    let inside = c.rows-test.true in
    looks_then (g.S.Share.seen c.args.share.now) (g.S.Share.seen c.rows.share)
    (g.S.Share.seen c.is_counted.new.share) ⊥ _ _ c.rows.row-index 1 (length c.args.rows.now)
    (λ contents. NoneBefore c.args.rows.now contents c.rows.row-index)
    (TellsCounted c.row-item.result.1 (Ok c.in_ok-is_counted.field-0)) _ c.rows.invariant.looks
    c.in_ok-is_counted.ensures.looks (omega (arith, inside))
    (λ f. absurd (no_err {A = Option Bytes} (Some c.in_ok-copy.field-0) faults.Failed f))
    (λ contents so told. ap (λ (l : Bytes). Some l) c.in_ok-copy.ensures.value
    ∙ found_first c.args.rows.now contents c.rows.row-index c.row-item.result inside c.row-item.is
    (sym c.if-branch.true ∙ told) so)

-- one is passed
pub rows-preserved : goal.rows-preserved
rows-preserved g c =
    let inside = c.rows-test.true in
    record {
      looks = looks_then (g.S.Share.seen c.args.share.now) (g.S.Share.seen c.rows.share)
          (g.S.Share.seen c.is_counted.new.share) ⊥ _ ⊥ c.rows.row-index 1 (c.rows.row-index + 1)
          (λ contents. NoneBefore c.args.rows.now contents c.rows.row-index)
          (TellsCounted c.row-item.result.1 (Ok c.in_ok-is_counted.field-0)) _ c.rows.invariant.looks
          c.in_ok-is_counted.ensures.looks (omega arith) (λ f. absurd f)
          (λ contents so told. passed c.args.rows.now contents c.rows.row-index c.row-item.result inside c.row-item.is
          (sym c.if-branch.false ∙ told) so);
      goes = g.met.S.Share.goes_on c.args.share.now c.rows.share c.is_counted.new.share c.rows.invariant.goes
          c.is_counted.ensures.goes;
    }
