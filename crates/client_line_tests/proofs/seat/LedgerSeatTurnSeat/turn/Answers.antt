-- The turn's entry stands behind the client's others.
use Rattle.std.proofs.Common.{◌≡◌, Option, Some, refl, sym, ◌∙◌, subst}
use Rattle.pw_types.specs.Moment.{cut_moment}
use Rattle.request_turns.specs.Taken.{Takes}
use Rattle.client_line_tests.specs.Ledgers.{bare_at, own_at}
use Rattle.client_line_tests.proofs.Calling.{takes_entry}
use Rattle.client_line_tests.proofs.seat.LedgerSeatTurnSeat.turn.Goals as goal

pub returns-clause-takes : goal.returns-clause-takes
returns-clause-takes g c =
    let seat = c.unwrap-seat.result in
    let told = c.answer_to-told.result in
    let was : Some seat ≡ c.args.self.now.seat = sym c.unwrap-seat.ensures ∙ c.take.ensures.value in
    subst (λ (s : Option _). Takes (bare_at c.args.self.now.lock.now.id s).caller (cut_moment c.args.moment) c.args.turn
    (own_at s) (own_at (Some c.leave-seat.result.0)) told) was
    (takes_entry seat.caller (cut_moment c.args.moment) c.args.turn seat c.enter-held.result.seat c.leave-seat.result.0
    c.enter-held.result.before _ told c.enter-held.ensures.seat c.leave-seat.ensures.seat
    c.caller-caller.ensures c.cut_moment-given.ensures.value refl
    (c.answer_to-told.ensures.value ∙ sym c.answer_to-answer.ensures.value))
