use Rattle.std.proofs.Common.{arith}
use Rattle.turn_edits.proofs.Drawing.{draws_then, draws_wider}
use Rattle.turn_pins.proofs.new_pin.new_pin.Goals as goal

-- perhaps a salt, and two secrets
pub returns-clause-fresh : goal.returns-clause-fresh
returns-clause-fresh c = λ _.
    draws_then 8 12 c.args.generator.now c.key-high.new.self c.key-reset.new.self 8 (omega arith)
    (draws_then 0 4 c.args.generator.now c.derived_key.new.generator c.key-high.new.self 8 (omega arith)
    c.derived_key.ensures.draws c.key-high.ensures.moves) c.key-reset.ensures.moves

pub returns-clause-draws : goal.returns-clause-draws
returns-clause-draws c =
    draws_wider 16 20 0 20 c.args.generator.now c.key-reset.new.self (omega arith) (omega arith)
    (draws_then 8 12 c.args.generator.now c.key-high.new.self c.key-reset.new.self 8 (omega arith)
    (draws_then 0 4 c.args.generator.now c.derived_key.new.generator c.key-high.new.self 8 (omega arith)
    c.derived_key.ensures.draws c.key-high.ensures.moves) c.key-reset.ensures.moves)
