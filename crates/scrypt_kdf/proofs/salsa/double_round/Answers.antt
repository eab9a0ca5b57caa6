use Rattle.std.proofs.Common.{refl}
use Rattle.scrypt_kdf.specs.Salsa.{column_round, row_round}
use Rattle.scrypt_kdf.proofs.salsa.double_round.Goals as goal

-- lane j goes through the rounds of column j, and then of row j
pub returns : goal.returns
unfolding column_round row_round
returns c =
    let rows = c.quarter_rounds-2.ensures in
    let between = c.transposed-down.ensures in
    let columns = c.quarter_rounds.ensures in
    rw (
      c.transposed.ensures.a,
      c.transposed.ensures.b,
      c.transposed.ensures.c,
      c.transposed.ensures.d,
      rows.a,
      rows.b,
      rows.c,
      rows.d,
      between.a,
      between.b,
      between.c,
      between.d,
      columns.a,
      columns.b,
      columns.c,
      columns.d,
    ) refl
