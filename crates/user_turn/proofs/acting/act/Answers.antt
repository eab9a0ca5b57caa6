use Rattle.std.proofs.Common.{ℕ, subst, ◌∙◌}
use Rattle.user_turn.specs.Acts.{IsTurn, entry_by}
use Rattle.user_turn.proofs.AtMoments.{acted}
use Rattle.user_turn.proofs.acting.act.Goals as goal

-- the turn's moment is the greater of the last one and the clock's
pub returns-clause-act : goal.returns-clause-act
returns-clause-act g c = λ caller place.
    acted (g.S.Share.seen c.args.share.now) (g.S.Share.seen c.timely_act.new.share) c.args.state.now
    c.timely_act.new.state
    (entry_by caller c.args.moment c.timely_act.new.state.last c.args.turn.now c.timely_act.result.told
    c.timely_act.result.answer place)
    c.requires.moment (c.timely_act.ensures.rests.last ∙ c.max-state.ensures)
    (subst (λ (n : ℕ). IsTurn (g.S.Share.seen c.args.share.now) (g.S.Share.seen c.timely_act.new.share)
    (record c.args.state.now { last = n }) c.timely_act.new.state c.args.turn.now c.timely_act.result.told
    c.timely_act.result.answer) c.max-state.ensures c.timely_act.ensures.turn)
