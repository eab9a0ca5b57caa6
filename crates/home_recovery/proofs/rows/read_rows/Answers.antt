use Rattle.std.proofs.Common.{◌≡◌, ℕ, ◌+◌, ◌*◌, List, Ok, Err, refl, sym, ap, ◌∙◌, subst, arith}
use Rattle.std.proofs.lemmas.Result.{err_from_is_err_and}
use Rattle.std.specs.FinMap.{get, insert, len}
use Rattle.stored_home.specs.Loaded.{Rows}
use Rattle.stored_home.specs.declared.fault.StoreFault.TheVariants.{NoMemory}
use Rattle.home_recovery.specs.Parts.{TellsFactor, TellsRows}
use Rattle.home_recovery.proofs.ReadLemmas.{reads_none, reads_then}
use Rattle.home_recovery.proofs.CallLemmas.{reads_then_err, reads_then_starved, reads_ok}
use Rattle.home_recovery.proofs.RowLemmas.{AreSoundRows, no_rows, none_before, label_of_block, factor_fault, row_added, one_more, rows_whole, AreFittingRows, no_fitting, fitting_added, rows_fitting}
use Rattle.home_recovery.proofs.rows.read_rows.Goals as goal

pub blocks-2-init : goal.blocks-2-init
blocks-2-init g c =
    let lost = c.args.lost in
    let account = c.args.account.now in
    let stash = c.args.stash.now in
    let none = c.new-rows.ensures in
    record {
      within = omega arith;
      read = reads_none (g.S.Share.seen c.args.share.now) (Unit {0}) ⊥ 0 (λ contents. AreSoundRows lost contents account stash c.new-rows.result)
          (λ f. f) (λ contents. subst (λ (m : Rows). AreSoundRows lost contents account stash m) (sym none) (no_rows lost contents account stash));
      all = λ q before. absurd (none_before stash q before);
      fits = subst (λ (m : Rows). AreFittingRows stash m) (sym none) (no_fitting stash);
      goes = g.met.S.Share.goes_nowhere c.args.share.now;
    }

pub read_factor-requires-clause-label : goal.read_factor-requires-clause-label
read_factor-requires-clause-label g c =
    let b = c.block-edition.ensures.value in
    label_of_block c.args.stash.now c.blocks-2.at c.block-edition.result.0.now b.0 c.requires.rows b.1

-- a factor has a fault
pub returns-in_err-row-clause-read : goal.returns-in_err-row-clause-read
returns-in_err-row-clause-read g c =
    let p = err_from_is_err_and c.from_residual.result c.from_residual.ensures.1 in
    let b = c.block-edition.ensures.value in
    let label = c.block-edition.result.0.now in
    let edition = c.block-edition.result.1 in
    let within = c.blocks-2-test.true in
    rw (p.1, p.2) (reads_then_err (g.S.Share.seen c.args.share.now) (g.S.Share.seen c.blocks-2.share) (g.S.Share.seen c.read_factor.new.share)
    c.in_err-row.field-0.0 (Unit {0}) ⊥ (2 * c.blocks-2.at) 2 64
    (λ contents. AreSoundRows c.args.lost contents c.args.account.now c.args.stash.now c.blocks-2.rows)
    (TellsFactor c.args.account.now c.args.lost label edition (Err c.in_err-row.field-0.0))
    (TellsRows c.args.account.now c.args.lost c.args.stash.now (Err c.in_err-row.field-0.0))
    c.blocks-2.invariant.read c.in_err-row.ensures.read
    (omega (arith, within, c.count-at-end.ensures.value, c.count-at-end.ensures.few)) tt
    (λ contents h l. factor_fault c.args.account.now c.args.lost c.args.stash.now contents label c.blocks-2.at b.0 edition c.in_err-row.field-0.0 b.1 b.2 l))

-- there is no memory for a label, or for the row
pub returns-in_err-from_str-clause-read : goal.returns-in_err-from_str-clause-read
returns-in_err-from_str-clause-read g c =
    let p = err_from_is_err_and c.from_residual-in_err-from_str.result c.from_residual-in_err-from_str.ensures.1 in
    let label = c.block-edition.result.0.now in
    let edition = c.block-edition.result.1 in
    let within = c.blocks-2-test.true in
    rw (p.1, p.2) (reads_then_starved (g.S.Share.seen c.args.share.now) (g.S.Share.seen c.blocks-2.share) (g.S.Share.seen c.read_factor.new.share)
    (Unit {0}) ⊥ _ _ (2 * c.blocks-2.at) 2 64
    (λ contents. AreSoundRows c.args.lost contents c.args.account.now c.args.stash.now c.blocks-2.rows)
    (TellsFactor c.args.account.now c.args.lost label edition (Ok c.in_ok-row.row))
    (TellsRows c.args.account.now c.args.lost c.args.stash.now (Err NoMemory))
    c.blocks-2.invariant.read c.in_ok-row.ensures.read
    (omega (arith, within, c.count-at-end.ensures.value, c.count-at-end.ensures.few)) tt (λ contents. tt))

pub returns-in_err-insert-clause-read : goal.returns-in_err-insert-clause-read
returns-in_err-insert-clause-read g c =
    let p = err_from_is_err_and c.from_residual-in_err-insert.result c.from_residual-in_err-insert.ensures.1 in
    let label = c.block-edition.result.0.now in
    let edition = c.block-edition.result.1 in
    let within = c.blocks-2-test.true in
    rw (p.1, p.2) (reads_then_starved (g.S.Share.seen c.args.share.now) (g.S.Share.seen c.blocks-2.share) (g.S.Share.seen c.read_factor.new.share)
    (Unit {0}) ⊥ _ _ (2 * c.blocks-2.at) 2 64
    (λ contents. AreSoundRows c.args.lost contents c.args.account.now c.args.stash.now c.blocks-2.rows)
    (TellsFactor c.args.account.now c.args.lost label edition (Ok c.in_ok-row.row))
    (TellsRows c.args.account.now c.args.lost c.args.stash.now (Err NoMemory))
    c.blocks-2.invariant.read c.in_ok-row.ensures.read
    (omega (arith, within, c.count-at-end.ensures.value, c.count-at-end.ensures.few)) tt (λ contents. tt))

-- the label's record stands beside the others
pub blocks-2-preserved : goal.blocks-2-preserved
blocks-2-preserved g c =
    let b = c.block-edition.ensures.value in
    let label = c.block-edition.result.0.now in
    let edition = c.block-edition.result.1 in
    let lost = c.args.lost in
    let account = c.args.account.now in
    let stash = c.args.stash.now in
    let rows = c.blocks-2.rows in
    let row = c.in_ok-row.row in
    let within = c.blocks-2-test.true in
    let added : c.insert.new.self ≡ insert rows label row =
    c.in_ok-insert.ensures.ok ∙ ap (λ (l : List ℕ). insert rows l row) c.in_ok-from_str.ensures.value in
    record {
      within = omega (arith, within, c.count-at-end.ensures.value, c.count-at-end.ensures.few);
      read = reads_then (g.S.Share.seen c.args.share.now) (g.S.Share.seen c.blocks-2.share) (g.S.Share.seen c.read_factor.new.share)
          (Unit {0}) ⊥ _ _ (Unit {0}) ⊥ (2 * c.blocks-2.at) 2 (2 * (c.blocks-2.at + 1))
          (λ contents. AreSoundRows lost contents account stash rows)
          (TellsFactor account lost label edition (Ok row))
          (λ contents. AreSoundRows lost contents account stash c.insert.new.self)
          c.blocks-2.invariant.read c.in_ok-row.ensures.read (omega arith) tt (λ _. refl) (λ f. absurd f)
          (λ contents h l. subst (λ (m : Rows). AreSoundRows lost contents account stash m) (sym added)
          (row_added account lost stash contents rows label c.blocks-2.at b.0 edition row b.1 b.2 h l));
      all = λ q before. subst (λ (m : Rows). Rattle.std.specs.Prelude.IsSome (get m q)) (sym added)
          (one_more stash rows c.blocks-2.at label b.0 row b.1 c.blocks-2.invariant.all q before);
      fits = subst (λ (m : Rows). AreFittingRows stash m) (sym added)
          (fitting_added stash rows c.blocks-2.invariant.fits label c.blocks-2.at b.0 edition row b.1 b.2
          c.in_ok-row.ensures.fits.0 c.in_ok-row.ensures.fits.1);
      goes = g.met.S.Share.goes_on c.args.share.now c.blocks-2.share c.read_factor.new.share c.blocks-2.invariant.goes c.read_factor.ensures.goes;
    }

-- all blocks have their records
pub returns-clause-read : goal.returns-clause-read
returns-clause-read g c =
    let lost = c.args.lost in
    let account = c.args.account.now in
    let stash = c.args.stash.now in
    let rows = c.blocks-2.rows in
    let past = c.blocks-2-test.false in
    let size = c.count-at-end.ensures.value in
    let bound = c.blocks-2.invariant.within in
    reads_ok (g.S.Share.seen c.args.share.now) (g.S.Share.seen c.blocks-2.share) rows (Unit {0}) ⊥ (2 * c.blocks-2.at) 64
    (λ contents. AreSoundRows lost contents account stash rows) (TellsRows account lost stash (Ok rows))
    c.blocks-2.invariant.read (omega (arith, bound)) tt
    (λ contents h. rows_whole account lost stash contents rows h
    (λ label before. c.blocks-2.invariant.all label (let bef = before.before in record {
      place = before.place;
      before = omega (arith, bef, past, size);
      block = before.block;
      stands = before.stands;
    })))

-- and they are those of the blocks, whatever the contents are
pub returns-clause-fits : goal.returns-clause-fits
returns-clause-fits g c =
    let past = c.blocks-2-test.false in
    let size = c.count-at-end.ensures.value in
    rows_fitting c.args.stash.now c.blocks-2.rows c.blocks-2.invariant.fits
    (λ label before. c.blocks-2.invariant.all label (let bef = before.before in record {
      place = before.place;
      before = omega (arith, bef, past, size);
      block = before.block;
      stands = before.stands;
    }))
