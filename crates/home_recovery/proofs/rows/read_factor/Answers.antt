use Rattle.std.proofs.Common.{Ok, Err, arith, refl}
use Rattle.std.proofs.lemmas.Result.{err_from_is_err_and}
use Rattle.home_recovery.specs.Parts.{TellsRow, TellsItsLeaf, TellsFactor}
use Rattle.home_recovery.proofs.CallLemmas.{reads_err, reads_then_err, reads_then_ok}
use Rattle.home_recovery.proofs.RowLemmas.{row_fault, leaf_fault}
use Rattle.home_recovery.proofs.rows.read_factor.Goals as goal

-- the record has a fault
pub returns-in_err-row-clause-read : goal.returns-in_err-row-clause-read
returns-in_err-row-clause-read g c =
    let p = err_from_is_err_and c.from_residual.result c.from_residual.ensures.1 in
    rw (p.1, p.2) (reads_err (g.S.Share.seen c.args.share.now) (g.S.Share.seen c.read_row.new.share) c.in_err-row.field-0.0 1 2
    (TellsRow c.args.account.now c.args.label.now c.args.edition (Err c.in_err-row.field-0.0))
    (TellsFactor c.args.account.now c.args.lost c.args.label.now c.args.edition (Err c.in_err-row.field-0.0))
    c.in_err-row.ensures.read (omega arith)
    (λ contents h. row_fault c.args.account.now c.args.label.now c.args.lost c.args.edition c.in_err-row.field-0.0 contents h))

-- or its leaf
pub returns-in_err-check_leaf-clause-read : goal.returns-in_err-check_leaf-clause-read
returns-in_err-check_leaf-clause-read g c =
    let p = err_from_is_err_and c.from_residual-in_err-check_leaf.result c.from_residual-in_err-check_leaf.ensures.1 in
    rw (p.1, p.2) (reads_then_err (g.S.Share.seen c.args.share.now) (g.S.Share.seen c.read_row.new.share) (g.S.Share.seen c.check_leaf.new.share)
    c.in_err-check_leaf.field-0.0 _ _ 1 1 2
    (TellsRow c.args.account.now c.args.label.now c.args.edition (Ok c.in_ok-row.row))
    (TellsItsLeaf c.args.account.now c.args.lost c.in_ok-row.row (Err c.in_err-check_leaf.field-0.0))
    (TellsFactor c.args.account.now c.args.lost c.args.label.now c.args.edition (Err c.in_err-check_leaf.field-0.0))
    c.in_ok-row.ensures.read c.in_err-check_leaf.ensures.read (omega arith) refl
    (λ contents h l. leaf_fault c.args.account.now c.args.label.now c.args.lost c.args.edition c.in_ok-row.row c.in_err-check_leaf.field-0.0 contents h l))

pub returns-clause-read : goal.returns-clause-read
returns-clause-read g c =
    reads_then_ok (g.S.Share.seen c.args.share.now) (g.S.Share.seen c.read_row.new.share) (g.S.Share.seen c.check_leaf.new.share)
    c.in_ok-row.row _ _ _ _ 1 1 2
    (TellsRow c.args.account.now c.args.label.now c.args.edition (Ok c.in_ok-row.row))
    (TellsItsLeaf c.args.account.now c.args.lost c.in_ok-row.row (Ok tt))
    (TellsFactor c.args.account.now c.args.lost c.args.label.now c.args.edition (Ok c.in_ok-row.row))
    c.in_ok-row.ensures.read c.in_ok-check_leaf.ensures.read (omega arith) refl refl
    (λ contents h l. (h.0, h.1, l))
