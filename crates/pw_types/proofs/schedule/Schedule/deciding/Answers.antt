use Rattle.std.proofs.Common.{rules, ◌<◌, length, get_or, ◌∙◌, arith}
use Rattle.std.proofs.lemmas.Bool.{le-leb, lt-leb}
use Rattle.std.proofs.lemmas.List.{take_more}
use Rattle.pw_types.specs.Delay.{deciding}
use Rattle.pw_types.proofs.DelayLemmas.{deciding_push}
use Rattle.pw_types.proofs.schedule.Schedule.deciding.Goals as goal
use Rattle.pw_types.proofs.schedule.Schedule.deciding.Goals.{then-pair-wrong, else-pair-wrong}

pub loop-pair-init : goal.loop-pair-init
unfolding deciding
loop-pair-init c = search rules

pub loop-pair-preserved : goal.loop-pair-preserved
loop-pair-preserved c =
    let inside : c.loop-pair.pair-index < length c.pairs-pair-items.result.now = omega arith in
    let more = take_more c.pairs-pair-items.result.now c.loop-pair.pair-index (0, 0) inside in
    let here = get_or c.pairs-pair-items.result.now c.loop-pair.pair-index (0, 0) in
    rw (more, deciding_push) (elim c.if-pair-wrong.branch [
      | then-pair-wrong w ↦ rw (le-leb here.0 c.args.wrong w.if-pair-wrong.true) w.deciding-is
      | else-pair-wrong w ↦ rw (lt-leb here.0 c.args.wrong w.if-pair-wrong.false) (w.deciding-is ∙ c.loop-pair.invariant)
    ])
