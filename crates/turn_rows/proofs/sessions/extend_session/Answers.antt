use Rattle.std.proofs.Common.{sym, ap, subst}
use Rattle.std.specs.Prelude.{option_map}
use Rattle.account_machine.specs.declared.answer.Answer.TheVariants as answers
use Rattle.account_machine.specs.declared.request.Request.TheVariants.{ExtendSession}
use Rattle.account_machine.specs.declared.request.Turn.TheVariants.{Act}
use Rattle.auth_session.specs.Table.{Table, edit_at, extended_kept}
use Rattle.user_state.specs.Turns.{IsGiven}
use Rattle.turn_rows.proofs.sessions.extend_session.Goals as goal
use Rattle.user_state.specs.Sound.{IsSound}
use Rattle.turn_rows.proofs.Rows.{extend_given, moved_end}
use Rattle.turn_rows.proofs.Sounds.{sound_with, keyed_extended}

pub returns-clause-given : goal.returns-clause-given
returns-clause-given c = λ share account. subst (λ (table : Table). IsGiven share share c.args.state.now
    (record c.args.state.now { sessions = table }) (Act (ExtendSession account c.args.token.now c.args.seconds))
    (answers.OkEnds c.extend.result))
    (sym c.extend.ensures.after)
    (extend_given c.args.state.now c.requires.ready share c.before.before.in-Some.at c.args.seconds c.extend.result
    c.args.token.now account
    c.before.before.in-Some.ensures.some.0 c.extend.ensures.end c.requires.due)

pub returns-clause-sound : goal.returns-clause-sound
returns-clause-sound c = λ sound.
    subst (λ (table : Table). IsSound (record c.args.state.now { sessions = table })) (sym c.extend.ensures.after)
    (sound_with c.args.state.now (record c.args.state.now.sessions {
      kept = edit_at
          (extended_kept c.args.seconds c.args.state.now.last) c.before.before.in-Some.at c.args.state.now.sessions.kept;
    })
    c.args.state.now.generator sound
    (keyed_extended c.args.state.now.sessions.kept c.before.before.in-Some.at c.args.seconds c.args.state.now.last
    sound.keyed))

-- the end as the table gives it
pub returns-clause-answer : goal.returns-clause-answer
returns-clause-answer c =
    ap (option_map answers.OkEnds)
    (moved_end c.args.state.now c.before.before.in-Some.at c.args.seconds c.extend.result
    c.args.token.now c.before.before.in-Some.ensures.some.0 c.extend.ensures.end)
