use Rattle.std.proofs.Common.{refl}
use Rattle.ct_bytes.specs.Fields.{field8}
use Rattle.stash_format.specs.Spelling.{row_bytes, block_bytes}
use Rattle.stash_format.specs.Spelled.{HasBlockSizes}
use Rattle.stash_format.proofs.RowLoops.{row_written}
use Rattle.stash_format.proofs.spelling.put_rows.Goals as goal

-- one more label and its block
pub rows-preserved : goal.rows-preserved
rows-preserved c =
    let row = c.row-item.result in
    row_written row_bytes HasBlockSizes c.args.rows.now c.rows.row-index row c.args.out.now c.rows.out _ _ (field8 row.0) (block_bytes row.1)
    c.rows-test.true c.row-item.is c.rows.invariant.0 c.rows.invariant.1 c.in_ok-put_name.ensures.ok c.in_ok-put_block.ensures.ok refl c.in_ok-put_block.ensures.sizes
