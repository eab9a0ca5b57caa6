use Rattle.account_machine.specs.Effect.{line_without_count}
use Rattle.machine_step.proofs.Listed.{AgreeBelow}
use Rattle.machine_step.proofs.fits.lists_without_counts.Given as goal

-- the lines so far are the factors'
abbrev pub invariant-loop-at : goal.invariant-loop-at
invariant-loop-at l = AgreeBelow line_without_count l.lines l.rows l.at
