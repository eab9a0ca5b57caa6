-- The account's moments stay below 2^40.
use Rattle.machine_step.specs.Timely.{IsTimely}
use Rattle.machine_tests.proofs.script.stops.Given as goal

-- the account's moments are below 2^40
abbrev pub invariant-loop-at : goal.invariant-loop-at
invariant-loop-at l = IsTimely l.account.era l.account.user
