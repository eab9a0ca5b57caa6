use Rattle.std.proofs.Common.{refl, arith}
use Rattle.account_machine.specs.Effect.{line_without_count}
use Rattle.machine_step.proofs.Listed.{agree-all}
use Rattle.machine_step.proofs.fits.lists_without_counts.Goals as goal

-- all lines were compared
pub returns : goal.returns
returns c =
    (λ h. agree-all line_without_count c.args.lines.now c.args.rows.now c.if-lines-rows.false (λ k below. c.loop-at.invariant k (omega (arith, c.loop-at-test.false, below))), λ h. refl)
