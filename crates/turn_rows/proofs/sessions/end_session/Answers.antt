use Rattle.std.proofs.Common.{sym, subst}
use Rattle.std.specs.List.{remove}
use Rattle.account_machine.specs.declared.answer.Answer.TheVariants as answers
use Rattle.account_machine.specs.declared.request.Request.TheVariants.{EndSession}
use Rattle.account_machine.specs.declared.request.Turn.TheVariants.{Act}
use Rattle.auth_session.specs.Table.{Table}
use Rattle.user_state.specs.Turns.{IsGiven}
use Rattle.turn_rows.proofs.sessions.end_session.Goals as goal
use Rattle.user_state.specs.Sound.{IsSound}
use Rattle.turn_rows.proofs.Rows.{end_given}
use Rattle.turn_rows.proofs.Sounds.{sound_with, keyed_ended}

pub returns-clause-given : goal.returns-clause-given
returns-clause-given c = λ share account. subst (λ (table : Table). IsGiven share share c.args.state.now
    (record c.args.state.now { sessions = table }) (Act (EndSession account c.args.token.now)) answers.Ok)
    (sym c.end.ensures)
    (end_given c.args.state.now c.requires.ready share c.before.before.in-Some.at c.args.token.now account
    c.before.before.in-Some.ensures.some.0 c.before.before.in-Some.ensures.some.1 c.requires.due)

pub returns-clause-sound : goal.returns-clause-sound
returns-clause-sound c = λ sound.
    subst (λ (table : Table). IsSound (record c.args.state.now { sessions = table })) (sym c.end.ensures)
    (sound_with c.args.state.now (record c.args.state.now.sessions {
      kept = remove c.args.state.now.sessions.kept
          c.before.before.in-Some.at;
    }) c.args.state.now.generator sound
    (keyed_ended c.args.state.now.sessions.kept c.before.before.in-Some.at sound.keyed))
