use Rattle.std.proofs.Common.{refl}
use Rattle.user_turn.proofs.Moving.{made_refusal}
use Rattle.user_turn.proofs.acting.settled_act.Goals as goal

-- a refusal applies
pub returns-in-Some-clause-given : goal.returns-in-Some-clause-given
returns-in-Some-clause-given g c = record {
  start = g.S.Share.seen c.args.share.now;
  stocked = refl;
  made = made_refusal (g.S.Share.seen c.args.share.now) c.args.state.now c.args.turn.now c.in-Some.answer
      (c.in-Some.ensures.refused (g.S.Share.seen c.args.share.now)) c.in-Some.ensures.exact;
}
