-- The book stands with the turn, by what the turn is to the state and to the account's device steps.
use Rattle.std.proofs.Common.{refl, sym, ◌∙◌, subst}
use Rattle.home_locks.specs.Accounts.{AccountStands}
use Rattle.home_locks.proofs.AccountLemmas.{account_ready, account_turn, adds_turn}
use Rattle.home_locks.proofs.turns.take_turn.Goals as goal

-- The state that the account was left with is one that a turn can begin with.
pub act-done-requires : goal.act-done-requires
act-done-requires g c =
    let first = c.args.lock.now.first in
    let stands = subst
    (λ value. AccountStands (g.K.AccountTurns.rules first.era) g.K.AccountTurns.ready first.seat first.state value.seat
    value.state c.enter-held.result.before)
    (sym c.value-account.ensures.value) c.enter-held.ensures.stands in
    record {
      ready = account_ready (g.K.AccountTurns.rules first.era) g.K.AccountTurns.ready
          (g.K.Platform.Device.seen c.args.shared.now.first.device) c.args.shared.now.id _ _ _ _ c.unwrap-own.result _ _
          c.requires.shared stands (sym c.take.ensures.value ∙ c.unwrap-own.ensures) c.new-share.ensures.value;
    }

pub leave-seat-requires-clause-stands : goal.leave-seat-requires-clause-stands
leave-seat-requires-clause-stands g c =
    let first = c.args.lock.now.first in
    let stands = subst
    (λ value. AccountStands (g.K.AccountTurns.rules first.era) g.K.AccountTurns.ready first.seat first.state value.seat
    value.state c.enter-held.result.before)
    (sym c.value-account.ensures.value) c.enter-held.ensures.stands in
    account_turn g.K.AccountTurns.rules g.K.AccountTurns.ready first.era (g.K.Platform.Device.seen c.args.shared.now.first.device) _ _ _ _ _ _
    c.unwrap-own.result c.into_seat.result c.new-share.result c.act-done.new.share _ _ _ _ stands c.requires.era
    (sym c.take.ensures.value ∙ c.unwrap-own.ensures) c.new-share.ensures.value c.act-done.ensures.goes
    c.into_seat.ensures.seat refl c.place-place.ensures c.act-done.ensures.stands c.act-done.ensures.stays_ready

-- The entry has the number of the client whose seat it is.
pub returns-clause-turn : goal.returns-clause-turn
returns-clause-turn g c =
    adds_turn g.K.AccountTurns.tells _ _ _ _ _ _ _ _ c.enter-held.ensures.seat c.caller-client.ensures
    c.act-done.ensures.tells
    c.leave-seat.ensures.seat c.leave-seat.ensures.place
