use Rattle.std.proofs.Common.{◌+◌, None, sym, subst}
use Rattle.account_machine.specs.declared.answer.Answer.TheVariants as answers
use Rattle.account_machine.specs.declared.request.Request.TheVariants.{StartSession}
use Rattle.account_machine.specs.declared.request.Turn.TheVariants.{Act}
use Rattle.account_machine.specs.declared.session.Token.{Token}
use Rattle.auth_session.specs.Table.{Table, with_kept, new_session}
use Rattle.user_state.specs.Turns.{IsGiven}
use Rattle.turn_rows.proofs.sessions.start_session.Goals as goal
use Rattle.user_state.specs.Sound.{IsSound}
use Rattle.turn_rows.proofs.Rows.{start_given}
use Rattle.turn_rows.proofs.Sounds.{sound_with, keyed_started}

pub returns-clause-given : goal.returns-clause-given
returns-clause-given c = λ share account.
    subst (λ (pair : Table × Token). IsGiven share share c.args.state.now
    (record c.args.state.now { generator = c.salt-tail.new.self; sessions = pair.0 })
    (Act (StartSession account c.args.intent)) (answers.OkSession (c.args.state.now.last + 300) pair.1))
    (λ i. (sym c.start-token.ensures.after i, sym c.start-token.ensures.token i))
    (start_given c.args.state.now c.requires.ready share c.salt-tail.new.self c.salt-tail.result c.args.intent account
    c.requires.due)

pub returns-clause-sound : goal.returns-clause-sound
returns-clause-sound c = λ sound.
    subst (λ (table : Table). IsSound (record c.args.state.now { generator = c.salt-tail.new.self; sessions = table }))
    (sym c.start-token.ensures.after)
    (sound_with c.args.state.now (record {
      kept = with_kept c.args.state.now.sessions.kept (record {
        session = new_session c.args.state.now.sessions.next c.salt-tail.result c.args.intent c.args.state.now.last;
        main = None;
      });
      next = c.args.state.now.sessions.next + 1;
    }) c.salt-tail.new.self sound
    (keyed_started c.args.state.now.sessions.kept c.args.state.now.sessions.next c.salt-tail.result c.args.intent
    c.args.state.now.last sound.keyed))
