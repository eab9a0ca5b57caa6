use Rattle.account_machine.specs.Effect.{line_of}
use Rattle.machine_step.proofs.Listed.{AgreeBelow}
use Rattle.machine_step.proofs.fits.lists.Given as goal

-- the lines so far are the factors'
abbrev pub invariant-loop-at : goal.invariant-loop-at
invariant-loop-at l = AgreeBelow line_of l.lines l.rows l.at
