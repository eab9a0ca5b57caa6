-- A turn more behind those that were made.
use Rattle.std.proofs.Common.{ap, ◌∙◌}
use Rattle.shared_sum.proofs.Turns.{more_turns}
use Rattle.shared_sum.proofs.callers.add_turns.Goals as goal

pub loop-preserved : goal.loop-preserved
loop-preserved g c =
    let was = c.loop.invariant in
    let made = c.add_turn-seat.ensures in (
      was.0,
      was.1,
      ap (λ seat. seat.lock) made.seat ∙ was.2,
      more_turns c.unwrap-seat.result c.loop.seat c.add_turn-seat.result _ _ _ was.3 made,
    )
