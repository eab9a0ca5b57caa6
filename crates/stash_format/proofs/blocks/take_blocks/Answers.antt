use Rattle.std.proofs.Common.{[], rules}
use Rattle.std.proofs.lemmas.Result.{err_from_is_err_and}
use Rattle.std.specs.FinMap.{empty}
use Rattle.stash_format.specs.Blocks.{blocks_at}
use Rattle.stash_format.proofs.Loops.{blocks_on, blocks_end, blocks_done}
use Rattle.stash_format.proofs.Rows.{rows_read, few_read}
use Rattle.stash_format.proofs.blocks.take_blocks.Goals as goal

-- the first row that is refused ends the reading
pub returns-in_err-last-clause-err : goal.returns-in_err-last-clause-err
returns-in_err-last-clause-err c =
    let p = err_from_is_err_and c.from_residual.result c.from_residual.ensures.1 in
    rw (p.1, p.2) (blocks_end c.in_err-last.field-0.0 c.args.count c.rows.counter c.args.version c.args.next c.rows.last.now c.rows.blocks c.rows.reader
    (blocks_at c.args.count c.args.version c.args.next [] empty c.args.reader.now) c.rows-test.true c.in_err-last.ensures.err c.rows.invariant.1)

-- a row more was read
pub rows-preserved : goal.rows-preserved
rows-preserved c = (
  search rules,
  blocks_on c.args.count c.rows.counter c.args.version c.args.next c.rows.last.now c.in_ok-last.last.now c.rows.blocks _ c.rows.reader _
      (blocks_at c.args.count c.args.version c.args.next [] empty c.args.reader.now) c.rows-test.true c.in_ok-last.ensures.ok c.rows.invariant.1,
)

-- all rows were read
pub returns-clause-ok : goal.returns-clause-ok
returns-clause-ok c =
    blocks_done c.args.count c.rows.counter c.args.version c.args.next c.rows.last.now c.rows.blocks c.rows.reader
    (blocks_at c.args.count c.args.version c.args.next [] empty c.args.reader.now) c.rows-test.false c.rows.invariant.1

-- blocks that are read may stand in a record
pub returns-clause-rows : goal.returns-clause-rows
returns-clause-rows c =
    rows_read c.args.count c.args.version c.args.next c.args.reader.now c.rows.reader c.rows.blocks (returns-clause-ok c)

pub returns-clause-few : goal.returns-clause-few
returns-clause-few c =
    few_read c.args.count c.args.version c.args.next c.args.reader.now c.rows.reader c.rows.blocks (returns-clause-ok c)
