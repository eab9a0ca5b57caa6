use Rattle.std.proofs.Common.{ℕ, Option, Ok, Err, arith}
use Rattle.std.proofs.lemmas.Result.{err_from_is_err_and}
use Rattle.account_machine.specs.declared.answer.FactorLine.{FactorLine}
use Rattle.stored_home.specs.declared.fault.StoreFault.TheVariants as faults
use Rattle.home_recovery.proofs.CallLemmas.{no_err}
use Rattle.turn_secrets.specs.Listing.{TellsCount, TellsLine}
use Rattle.turn_secrets.proofs.Counting.{line_fault}
use Rattle.turn_secrets.proofs.Looking.{looks_as, looks_err, looks_starved}
use Rattle.turn_secrets.proofs.factors.line_of.Goals as goal

-- the count has a fault
pub returns-in_err-wrong-clause-looks : goal.returns-in_err-wrong-clause-looks
returns-in_err-wrong-clause-looks g c =
    let p = err_from_is_err_and c.from_residual.result c.from_residual.ensures.1 in
    rw (p.1, p.2) (looks_err {A = Option ℕ} {B = FactorLine} (g.S.Share.seen c.args.share.now)
    (g.S.Share.seen c.count_of.new.share) c.in_err-wrong.field-0.0 1 1
    (TellsCount c.args.account.now c.args.lost c.args.row.now.1 (Err c.in_err-wrong.field-0.0))
    (TellsLine c.args.account.now c.args.lost c.args.row.now (Err c.in_err-wrong.field-0.0))
    c.in_err-wrong.ensures.looks (omega arith)
    (λ contents told. line_fault c.args.account.now c.args.lost c.args.row.now.1 contents c.args.row.now.0
    c.in_err-wrong.field-0.0 told))

-- there is no memory for the label
pub returns-in_err-label-clause-looks : goal.returns-in_err-label-clause-looks
returns-in_err-label-clause-looks g c =
    let p = err_from_is_err_and c.from_residual-in_err-label.result c.from_residual-in_err-label.ensures.1 in
    rw (p.1, p.2) (looks_starved {A = FactorLine} (g.S.Share.seen c.args.share.now) (g.S.Share.seen
    c.count_of.new.share) _
    1 1 _ (TellsLine c.args.account.now c.args.lost c.args.row.now (Err faults.NoMemory)) c.in_ok-wrong.ensures.looks
    (omega arith) (λ contents. tt))

-- the line
pub returns-clause-looks : goal.returns-clause-looks
returns-clause-looks g c =
    looks_as (g.S.Share.seen c.args.share.now) (g.S.Share.seen c.count_of.new.share) _ _ 1 1
    (TellsCount c.args.account.now c.args.lost c.args.row.now.1 (Ok c.in_ok-wrong.wrong))
    (TellsLine c.args.account.now c.args.lost c.args.row.now
    (Ok (record { label = c.in_ok-label.label; kind = c.args.row.now.1.kind; wrong = c.in_ok-wrong.wrong })))
    c.in_ok-wrong.ensures.looks (omega arith)
    (λ f. absurd (no_err {A = FactorLine} _ faults.Failed f))
    (λ contents told. λ i. record {
      label = c.in_ok-label.ensures.value i;
      kind = c.args.row.now.1.kind;
      wrong = told i;
    })
