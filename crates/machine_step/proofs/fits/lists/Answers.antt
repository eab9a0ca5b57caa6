use Rattle.std.proofs.Common.{refl, arith}
use Rattle.account_machine.specs.Effect.{line_of}
use Rattle.machine_step.proofs.Listed.{agree-all}
use Rattle.machine_step.proofs.fits.lists.Goals as goal

-- all lines were compared
pub returns : goal.returns
returns c =
    (λ h. agree-all line_of c.args.lines.now c.args.rows.now c.if-lines-rows.false (λ k below. c.loop-at.invariant k (omega (arith, c.loop-at-test.false, below))), λ h. refl)
