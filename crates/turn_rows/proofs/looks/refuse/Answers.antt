use Rattle.std.proofs.Common.{sym, subst, ◌∙◌}
use Rattle.account_machine.specs.declared.answer.Answer.{Answer}
use Rattle.user_state.specs.Turns.{IsGiven}
use Rattle.turn_rows.proofs.looks.refuse.Goals as goal
use Rattle.turn_rows.proofs.Quiet.{refused_given}
use Rattle.turn_rows.proofs.Rows.{no_fault}

pub returns-in-Some-clause-refused : goal.returns-in-Some-clause-refused
returns-in-Some-clause-refused c = λ share.
    subst (λ (answer : Answer). IsGiven share share c.args.state.now c.args.state.now c.args.turn.now answer)
    (sym c.answer.ensures)
    (refused_given c.args.state.now c.requires.ready c.args.turn.now c.in-Some.refused (no_fault c.in-Some.refused)
    (sym c.turn_refusal.ensures ∙ c.in-Some.is) share)
