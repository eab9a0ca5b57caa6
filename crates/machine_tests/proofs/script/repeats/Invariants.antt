-- The account's moments stay below 2^40.
use Rattle.machine_step.specs.Timely.{IsTimely}
use Rattle.machine_tests.proofs.script.repeats.Given as goal

-- the account's moments are below 2^40
abbrev pub invariant-loop-number : goal.invariant-loop-number
invariant-loop-number l = IsTimely l.account.era l.account.user
