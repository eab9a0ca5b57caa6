use Rattle.std.proofs.Common.{refl, sym, ap, subst}
use Rattle.account_machine.specs.declared.answer.Answer.TheVariants as answers
use Rattle.account_machine.specs.declared.request.Turn.{Turn}
use Rattle.user_state.specs.declared.state.UserState.{UserState}
use Rattle.user_turn.specs.Acts.{IsMade}
use Rattle.user_turn.proofs.Moving.{made_look}
use Rattle.user_turn.proofs.acting.due_act.Goals as goal

-- a label is looked at
pub returns-in-Look-clause-given : goal.returns-in-Look-clause-given
returns-in-Look-clause-given g c = record {
  start = g.S.Share.seen c.args.share.now;
  stocked = refl;
  made = subst (λ (turn : Turn). IsMade (g.S.Share.seen c.args.share.now) (g.S.Share.seen c.args.share.now)
      c.args.state.now c.look-seen.new.state turn (answers.Seen c.look-seen.result.edition)) (sym c.in-Look.is)
      (made_look (g.S.Share.seen c.args.share.now) c.args.state.now c.look-seen.new.state _ _
      (c.look-seen.ensures.given (g.S.Share.seen c.args.share.now)) refl
      (ap (λ (s : UserState). s.generator) c.look-seen.ensures.same));
}
