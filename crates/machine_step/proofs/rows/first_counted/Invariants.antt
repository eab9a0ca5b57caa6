use Rattle.std.proofs.Common.{◌≡◌, drop}
use Rattle.account_machine.specs.Effect.{first_counted}
use Rattle.machine_step.proofs.rows.first_counted.Given as goal

-- the rows so far have no count
abbrev pub invariant-loop-row : goal.invariant-loop-row
invariant-loop-row l = first_counted l.rows ≡ first_counted (drop l.row-index l.rows)
