use Rattle.std.proofs.Common.{refl}
use Rattle.user_accounts.proofs.ActLemmas.{kept_stands, stays_ready, seen_kept}
use Rattle.user_accounts.proofs.turns.UserTurnsAccountTurns.act.Goals as goal

-- the turn stands with the answer that is kept
pub returns-clause-stands : goal.returns-clause-stands
returns-clause-stands g c =
    kept_stands (g.S.Share.seen c.args.share.now) (g.S.Share.seen c.act-acted.new.share) c.args.state.now
    c.act-acted.new.state
    (record {
      given = c.args.asked.moment;
      moment = c.act-acted.new.state.last;
      told = c.act-acted.result.told;
      turn = c.args.asked.turn;
      answer = c.kept_and_told-kept.result.kept;
    })
    c.act-acted.result.answer c.kept_and_told-kept.ensures.kept (c.act-acted.ensures.act 0 0)

-- the account is the same, and between turns
pub returns-clause-stays_ready : goal.returns-clause-stays_ready
returns-clause-stays_ready g c =
    stays_ready c.args.state.now c.act-acted.new.state (c.act-acted.ensures.act 0 0).keeps c.act-acted.ensures.steady

-- the copy tells the entry
pub returns-clause-tells : goal.returns-clause-tells
returns-clause-tells g c = record {
  turn_is = refl;
  given_is = refl;
  told_is = c.kept_and_told-kept.ensures.told;
  plain = c.kept_and_told-kept.ensures.plain;
  seen = seen_kept c.act-acted.new.state c.args.asked.turn c.act-acted.result.answer c.kept_and_told-kept.result.kept
      c.act-acted.result.seen c.kept_and_told-kept.ensures.kept c.act-acted.ensures.seen;
}
