use Rattle.std.proofs.Common.{refl}
use Rattle.aes_core.proofs.ColumnLemmas.{column_from_tables}
use Rattle.aes_core.proofs.columns.column.Goals as goal

pub returns : goal.returns
returns c =
    column_from_tables _ _ _ _ c.args.a c.args.b c.args.c c.args.d c.args.key c.ranges.a.fits
    refl refl refl refl
