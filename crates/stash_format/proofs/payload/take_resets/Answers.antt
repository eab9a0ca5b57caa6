use Rattle.std.proofs.Common.{[], rules}
use Rattle.std.proofs.lemmas.Result.{err_from_is_err_and}
use Rattle.std.specs.FinMap.{empty}
use Rattle.stash_format.specs.Resets.{resets_at}
use Rattle.stash_format.proofs.Loops.{resets_on, resets_end, resets_done}
use Rattle.stash_format.proofs.payload.take_resets.Goals as goal

-- the first row that is refused ends the reading
pub returns-in_err-last-clause-err : goal.returns-in_err-last-clause-err
returns-in_err-last-clause-err c =
    let p = err_from_is_err_and c.from_residual.result c.from_residual.ensures.1 in
    rw (p.1, p.2) (resets_end c.in_err-last.field-0.0 c.args.count c.rows.counter c.rows.last.now c.rows.resets c.rows.reader
    (resets_at c.args.count [] empty c.args.reader.now) c.rows-test.true c.in_err-last.ensures.err c.rows.invariant.1)

-- a row more was read
pub rows-preserved : goal.rows-preserved
rows-preserved c = (
  search rules,
  resets_on c.args.count c.rows.counter c.rows.last.now c.in_ok-last.last.now c.rows.resets _ c.rows.reader _
      (resets_at c.args.count [] empty c.args.reader.now) c.rows-test.true c.in_ok-last.ensures.ok c.rows.invariant.1,
)

-- all rows were read
pub returns-clause-ok : goal.returns-clause-ok
returns-clause-ok c =
    resets_done c.args.count c.rows.counter c.rows.last.now c.rows.resets c.rows.reader
    (resets_at c.args.count [] empty c.args.reader.now) c.rows-test.false c.rows.invariant.1
