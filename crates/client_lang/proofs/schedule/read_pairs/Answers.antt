use Rattle.std.proofs.Common.{◌<◌, length, sym, ◌∙◌, arith}
use Rattle.client_lang.proofs.Pairs.{With-step}
use Rattle.client_lang.proofs.schedule.read_pairs.Goals as goal

-- this pair is read
pub loop-at-preserved : goal.loop-at-preserved
loop-at-preserved c =
    let room : c.loop-at.at < length c.loop-at.pairs = omega (arith, c.loop-at-test.true, c.requires, c.loop-at.auto.pairs) in
    c.loop-at.invariant
    ∙ With-step c.args.items.now c.loop-at.pairs c.loop-at.at c.index-items-at.result c.loop-at-test.true c.index-items-at.is c.in-Some.found (sym c.in-Some.ensures) room
