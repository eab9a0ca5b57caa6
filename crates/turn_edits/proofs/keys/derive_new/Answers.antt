use Rattle.std.proofs.Common.{arith}
use Rattle.turn_edits.proofs.keys.derive_new.Goals as goal

-- a salt was drawn
pub returns-in_err-key-clause-draws : goal.returns-in_err-key-clause-draws
returns-in_err-key-clause-draws c =
    record { words = 4; some = omega arith; few = omega arith; moved_is = c.salt-salt.ensures.moves }

pub returns-clause-draws : goal.returns-clause-draws
returns-clause-draws c =
    record { words = 4; some = omega arith; few = omega arith; moved_is = c.salt-salt.ensures.moves }
