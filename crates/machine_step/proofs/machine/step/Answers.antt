use Rattle.std.proofs.Common.{Option, sym, ◌∙◌, subst}
use Rattle.std.specs.Prelude.{MatchOption}
use Rattle.account_machine.specs.declared.user.User.{User}
use Rattle.account_machine.specs.Step.{FailsToReload, Given}
use Rattle.machine_step.proofs.machine.step.Goals as goal

-- no user comes after an entry that the table doesn't give the reloaded user
pub returns-in_default-2-clause-refused : goal.returns-in_default-2-clause-refused
returns-in_default-2-clause-refused c = λ refused after step.
    let entry = c.args.entry.now in
    let begun = record c.args.user.now { last = entry.moment } in
    let given = subst (λ (r : Option User). MatchOption r (FailsToReload begun entry.told entry.answer after) (λ start. Given c.args.era start entry.turn entry.answer after))
    (sym c.in_ok-start.ensures ∙ c.in-Some.is) step.turned in
    (rw c.in_default-2.is at c.in_ok-after.ensures) after given
