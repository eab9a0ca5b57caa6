use Rattle.std.proofs.Common.{◌≡◌, ◌+◌, List, map, take, length, Ok, Err, sym, ap, ◌∙◌, is_some, arith}
use Rattle.std.proofs.lemmas.List.{take_all}
use Rattle.std.proofs.lemmas.Result.{err_from_is_err_and}
use Rattle.account_machine.specs.declared.answer.FactorLine.{FactorLine}
use Rattle.stored_home.specs.declared.fault.StoreFault.TheVariants as faults
use Rattle.home_recovery.proofs.CallLemmas.{no_err}
use Rattle.turn_secrets.specs.Listing.{TellsLine, TellsLines, line_in}
use Rattle.turn_secrets.proofs.Counting.{lines_fault, lines_more}
use Rattle.turn_secrets.proofs.Looking.{looks_none, looks_as, looks_then, looks_then_err, looks_then_starved}
use Rattle.turn_secrets.proofs.factors.lines_of.Goals as goal

pub rows-init : goal.rows-init
rows-init g c = record {
  looks = looks_none (g.S.Share.seen c.args.share.now) ⊥ 0 _ (λ f. f) (λ contents. c.new-lines.ensures);
  goes = g.met.S.Share.goes_nowhere c.args.share.now;
}

pub line_of-requires-clause-spare : goal.line_of-requires-clause-spare
line_of-requires-clause-spare g c =
    let few = c.rows.invariant.looks.few in
    let spare = c.rows.invariant.looks.runs.spare in
    let inside = c.rows-test.true in
    let enough = c.requires.spare in
    omega (arith, few, spare, inside, enough)

pub line_of-requires-clause-lost : goal.line_of-requires-clause-lost
line_of-requires-clause-lost g c = c.requires.lost ∙ sym (ap is_some c.rows.invariant.looks.runs.lost)

-- a line has a fault
pub returns-in_err-line-clause-looks : goal.returns-in_err-line-clause-looks
returns-in_err-line-clause-looks g c =
    let p = err_from_is_err_and c.from_residual.result c.from_residual.ensures.1 in
    let inside = c.rows-test.true in
    rw (p.1, p.2) (looks_then_err {A = FactorLine} {B = List FactorLine} (g.S.Share.seen c.args.share.now)
    (g.S.Share.seen c.rows.share) (g.S.Share.seen c.line_of.new.share) c.in_err-line.field-0.0 ⊥ c.rows.row-index 1
    (length c.args.rows.now)
    (λ contents. c.rows.lines ≡ map (line_in c.args.lost contents.leaves) (take c.rows.row-index c.args.rows.now))
    (TellsLine c.args.account.now c.args.lost c.row-item.result (Err c.in_err-line.field-0.0))
    (TellsLines c.args.account.now c.args.lost c.args.rows.now (Err c.in_err-line.field-0.0))
    c.rows.invariant.looks c.in_err-line.ensures.looks (omega (arith, inside))
    (λ contents told. lines_fault c.args.account.now c.args.lost c.args.rows.now contents c.rows.row-index
    c.row-item.result inside c.row-item.is c.in_err-line.field-0.0 told))

-- there is no memory for it
pub returns-in_err-push-clause-looks : goal.returns-in_err-push-clause-looks
returns-in_err-push-clause-looks g c =
    let p = err_from_is_err_and c.from_residual-in_err-push.result c.from_residual-in_err-push.ensures.1 in
    let inside = c.rows-test.true in
    rw (p.1, p.2) (looks_then_starved {A = List FactorLine} (g.S.Share.seen c.args.share.now) (g.S.Share.seen
    c.rows.share)
    (g.S.Share.seen c.line_of.new.share) ⊥ _ c.rows.row-index 1 (length c.args.rows.now)
    (λ contents. c.rows.lines ≡ map (line_in c.args.lost contents.leaves) (take c.rows.row-index c.args.rows.now))
    (TellsLine c.args.account.now c.args.lost c.row-item.result (Ok c.in_ok-line.line))
    (TellsLines c.args.account.now c.args.lost c.args.rows.now (Err faults.NoMemory)) c.rows.invariant.looks
    c.in_ok-line.ensures.looks (omega (arith, inside)) (λ contents. tt))

-- one line more
pub rows-preserved : goal.rows-preserved
rows-preserved g c =
    let inside = c.rows-test.true in
    record {
      looks = looks_then (g.S.Share.seen c.args.share.now) (g.S.Share.seen c.rows.share)
          (g.S.Share.seen c.line_of.new.share) ⊥ _ ⊥ c.rows.row-index 1 (c.rows.row-index + 1)
          (λ contents. c.rows.lines ≡ map (line_in c.args.lost contents.leaves) (take c.rows.row-index c.args.rows.now))
          (TellsLine c.args.account.now c.args.lost c.row-item.result (Ok c.in_ok-line.line)) _
          c.rows.invariant.looks c.in_ok-line.ensures.looks (omega arith) (λ f. absurd f)
          (λ contents are one. c.in_ok-push.ensures.ok
          ∙ lines_more c.args.account.now c.args.lost c.args.rows.now contents c.rows.row-index c.row-item.result
          c.rows.lines c.in_ok-line.line inside c.row-item.is are one);
      goes = g.met.S.Share.goes_on c.args.share.now c.rows.share c.line_of.new.share c.rows.invariant.goes
          c.line_of.ensures.goes;
    }

-- all lines
pub returns-clause-looks : goal.returns-clause-looks
returns-clause-looks g c =
    let past = c.rows-test.false in
    let few = c.rows.invariant.looks.few in
    looks_as (g.S.Share.seen c.args.share.now) (g.S.Share.seen c.rows.share) ⊥ _ c.rows.row-index (length
    c.args.rows.now)
    (λ contents. c.rows.lines ≡ map (line_in c.args.lost contents.leaves) (take c.rows.row-index c.args.rows.now))
    (TellsLines c.args.account.now c.args.lost c.args.rows.now (Ok c.rows.lines)) c.rows.invariant.looks
    (omega (arith, past)) (λ f. absurd (no_err {A = List FactorLine} _ faults.Failed f))
    (λ contents are. are ∙ ap (map (line_in c.args.lost contents.leaves))
    (take_all c.rows.row-index c.args.rows.now (omega (arith, past))))
