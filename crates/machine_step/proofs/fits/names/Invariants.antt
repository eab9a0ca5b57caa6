use Rattle.std.proofs.Common.{ℕ, List}
use Rattle.machine_step.proofs.Listed.{AgreeBelow}
use Rattle.machine_step.proofs.fits.names.Given as goal

-- the names so far are the files'
abbrev pub invariant-loop-at : goal.invariant-loop-at
invariant-loop-at l = AgreeBelow (λ (row : List ℕ × List ℕ). row.0) l.names l.rows l.at
