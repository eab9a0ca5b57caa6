use Rattle.std.proofs.Common.{◌++◌, refl}
use Rattle.std.specs.Int.{w64, to_be_bytes}
use Rattle.ct_bytes.specs.Fields.{field8}
use Rattle.stash_format.specs.Spelling.{reset_bytes}
use Rattle.stash_format.specs.Spelled.{HasResetSizes}
use Rattle.stash_format.proofs.RowLoops.{row_written}
use Rattle.stash_format.proofs.spelling.put_resets.Goals as goal

-- one more label and its reset secret
pub rows-preserved : goal.rows-preserved
rows-preserved c =
    let row = c.row-item.result in
    row_written reset_bytes HasResetSizes c.args.rows.now c.rows.row-index row c.args.out.now c.rows.out _ _ (field8 row.0) (to_be_bytes w64 row.1.edition ++ row.1.secret)
    c.rows-test.true c.row-item.is c.rows.invariant.0 c.rows.invariant.1 c.in_ok-put_name.ensures.ok c.in_ok-put_reset.ensures.ok refl c.in_ok-put_reset.ensures.sizes
