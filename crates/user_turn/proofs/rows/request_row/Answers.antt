use Rattle.std.proofs.Common.{◌∙◌}
use Rattle.std.proofs.Common.{refl}
use Rattle.account_machine.specs.declared.answer.Answer.TheVariants as answers
use Rattle.user_turn.proofs.Moving.{draws_same, due_as, made_as, made_extend, made_listed, made_mount, made_start, made_still, ok_undamaged}
use Rattle.user_turn.proofs.Resting.{rests_settled}
use Rattle.user_turn.proofs.rows.request_row.Goals as goal

-- sessions and the mount are of this run alone
pub returns-in-StartSession-clause-rests : goal.returns-in-StartSession-clause-rests
returns-in-StartSession-clause-rests g c =
    rests_settled c.args.state.now c.start_session.new.state (c.start_session.ensures.sound c.requires.sound)
    c.start_session.ensures.last (c.start_session.ensures.doubt ∙ c.requires.ready.settled)

pub returns-in-ExtendSession-clause-rests : goal.returns-in-ExtendSession-clause-rests
returns-in-ExtendSession-clause-rests g c =
    rests_settled c.args.state.now c.extend_session.new.state (c.extend_session.ensures.sound c.requires.sound)
    c.extend_session.ensures.last (c.extend_session.ensures.doubt ∙ c.requires.ready.settled)

pub returns-in-EndSession-clause-rests : goal.returns-in-EndSession-clause-rests
returns-in-EndSession-clause-rests g c =
    rests_settled c.args.state.now c.end_session.new.state (c.end_session.ensures.sound c.requires.sound)
    c.end_session.ensures.last (c.end_session.ensures.doubt ∙ c.requires.ready.settled)

pub returns-in-Unmount-clause-rests : goal.returns-in-Unmount-clause-rests
returns-in-Unmount-clause-rests g c =
    rests_settled c.args.state.now c.unmount.new.state (c.unmount.ensures.sound c.requires.sound)
    c.unmount.ensures.last (c.unmount.ensures.doubt ∙ c.requires.ready.settled)

-- what each did
pub returns-in-StartSession-clause-given : goal.returns-in-StartSession-clause-given
returns-in-StartSession-clause-given g c = record {
  start = g.S.Share.seen c.args.share.now;
  stocked = refl;
  made = made_as c.in-StartSession.is
      (made_start (g.S.Share.seen c.args.share.now) c.args.state.now c.start_session.new.state _ _ c.start_session.result
      (c.start_session.ensures.given (g.S.Share.seen c.args.share.now) _) (due_as c.args.state.now c.in-StartSession.is c.requires.due)
      c.start_session.ensures.answer c.start_session.ensures.draws);
}

pub returns-in-ExtendSession-clause-given : goal.returns-in-ExtendSession-clause-given
returns-in-ExtendSession-clause-given g c = record {
  start = g.S.Share.seen c.args.share.now;
  stocked = refl;
  made = made_as c.in-ExtendSession.is
      (made_extend (g.S.Share.seen c.args.share.now) c.args.state.now c.extend_session.new.state _ _ _ c.extend_session.result
      (c.extend_session.ensures.given (g.S.Share.seen c.args.share.now) _) (due_as c.args.state.now c.in-ExtendSession.is c.requires.due)
      c.extend_session.ensures.answer c.extend_session.ensures.draws);
}

pub returns-in-EndSession-clause-given : goal.returns-in-EndSession-clause-given
returns-in-EndSession-clause-given g c = record {
  start = g.S.Share.seen c.args.share.now;
  stocked = refl;
  made = made_as c.in-EndSession.is
      (made_still (g.S.Share.seen c.args.share.now) c.args.state.now c.end_session.new.state _ c.end_session.result answers.Ok
      (c.end_session.ensures.given (g.S.Share.seen c.args.share.now) _) (due_as c.args.state.now c.in-EndSession.is c.requires.due)
      c.end_session.ensures.answer (refl, refl) ok_undamaged
      (draws_same c.args.state.now c.end_session.new.state c.end_session.ensures.draws));
}

pub returns-in-Unmount-clause-given : goal.returns-in-Unmount-clause-given
returns-in-Unmount-clause-given g c = record {
  start = g.S.Share.seen c.args.share.now;
  stocked = refl;
  made = made_as c.in-Unmount.is
      (made_still (g.S.Share.seen c.args.share.now) c.args.state.now c.unmount.new.state _ c.unmount.result answers.Ok
      (c.unmount.ensures.given (g.S.Share.seen c.args.share.now) _) (due_as c.args.state.now c.in-Unmount.is c.requires.due)
      c.unmount.ensures.answer (refl, refl) ok_undamaged
      (draws_same c.args.state.now c.unmount.new.state c.unmount.ensures.draws));
}

pub returns-in-Mount-clause-given : goal.returns-in-Mount-clause-given
returns-in-Mount-clause-given g c = record {
  start = g.S.Share.seen c.args.share.now;
  stocked = refl;
  made = made_as c.in-Mount.is
      (made_mount (g.S.Share.seen c.args.share.now) c.args.state.now c.mount.new.state _ _ c.mount.result
      (c.mount.ensures.given (g.S.Share.seen c.args.share.now) _) (due_as c.args.state.now c.in-Mount.is c.requires.due) c.mount.ensures.answers);
}

pub returns-in-ListFiles-clause-given : goal.returns-in-ListFiles-clause-given
returns-in-ListFiles-clause-given g c = record {
  start = g.S.Share.seen c.args.share.now;
  stocked = refl;
  made = made_as c.in-ListFiles.is
      (made_listed (g.S.Share.seen c.args.share.now) c.args.state.now _ c.list_files.result _
      (c.list_files.ensures.given (g.S.Share.seen c.args.share.now) _) (due_as c.args.state.now c.in-ListFiles.is c.requires.due) c.list_files.ensures.answer);
}
