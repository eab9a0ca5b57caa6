use Rattle.std.proofs.Common.{◌∙◌, ap, not, is_ok}
use Rattle.user_turn.proofs.Turning.{turn_settled, turn_of_reload, turn_of_fault, steady_again, none_by, some_by}
use Rattle.user_turn.proofs.acting.timely_act.Goals as goal

-- nothing is in doubt
pub returns-then-is_none-clause-turn : goal.returns-then-is_none-clause-turn
returns-then-is_none-clause-turn g c =
    turn_settled (g.S.Share.seen c.args.share.now) (g.S.Share.seen c.settled_act-answer.new.share) c.args.state.now
    c.settled_act-answer.new.state c.args.turn.now c.settled_act-answer.result.0
    (none_by c.args.state.now.doubt (c.is_none.ensures ∙ ap not c.if-is_none.true)) c.settled_act-answer.ensures.given

-- the account was reloaded
pub settled_act-answer-requires-in-Ok-clause-steady : goal.settled_act-answer-requires-in-Ok-clause-steady
settled_act-answer-requires-in-Ok-clause-steady g c =
    steady_again (g.S.Share.seen c.args.share.now) (g.S.Share.seen c.reload.new.share) (g.S.Share.seen c.reload.new.share)
    c.args.state.now c.reload.new.state c.reload.new.state c.args.turn.now
    Rattle.account_machine.specs.declared.answer.Answer.TheVariants.Ok c.reload.result c.reload.ensures.reloads
    (some_by c.args.state.now.doubt (c.is_none.ensures ∙ ap not c.if-is_none.false)) c.requires.steady (ap is_ok c.in-Ok.is)

pub returns-in-Ok-clause-turn : goal.returns-in-Ok-clause-turn
returns-in-Ok-clause-turn g c =
    turn_of_reload (g.S.Share.seen c.args.share.now) (g.S.Share.seen c.reload.new.share)
    (g.S.Share.seen c.settled_act-answer-in-Ok.new.share) c.args.state.now c.reload.new.state c.settled_act-answer-in-Ok.new.state
    c.args.turn.now c.settled_act-answer-in-Ok.result.0 c.reload.result c.reload.ensures.reloads
    (some_by c.args.state.now.doubt (c.is_none.ensures ∙ ap not c.if-is_none.false)) c.in-Ok.told c.in-Ok.is
    c.settled_act-answer-in-Ok.ensures.given

-- it couldn't be
pub returns-in-Err-clause-turn : goal.returns-in-Err-clause-turn
returns-in-Err-clause-turn g c =
    turn_of_fault (g.S.Share.seen c.args.share.now) (g.S.Share.seen c.reload.new.share)
    (g.S.Share.seen c.reload.new.share) c.args.state.now c.reload.new.state c.reload.new.state c.args.turn.now
    c.fault_answer.result c.reload.result c.reload.ensures.reloads
    (some_by c.args.state.now.doubt (c.is_none.ensures ∙ ap not c.if-is_none.false)) c.in-Err.fault c.in-Err.is
    c.fault_answer.ensures
