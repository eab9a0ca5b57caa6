use Rattle.std.proofs.Common.{drop}
use Rattle.account_machine.specs.declared.user.User.{User}
use Rattle.account_machine.specs.Legal.{IsLegal}
use Rattle.machine_step.specs.Timely.{IsTimely}
use Rattle.machine_step.proofs.history.take_steps.Given as goal

-- the entries so far lead here, and nowhere else
abbrev pub invariant-loop-entry : goal.invariant-loop-entry
invariant-loop-entry l =
    IsTimely l.era l.user
    × ((after : User) → IsLegal l.era l.user (drop l.entry-index l.entries) after → IsLegal l.era l.fn.user l.entries after)
    × ((after : User) → IsLegal l.era l.fn.user l.entries after → IsLegal l.era l.user (drop l.entry-index l.entries) after)
