-- The turn's entry stands behind the client's others.
use Rattle.std.proofs.Common.{rules, ◌≡◌, Option, Some, ◌∙◌, subst}
use Rattle.pw_types.specs.Moment.{cut_moment}
use Rattle.request_turns.specs.Taken.{Takes}
use Rattle.home_seats.specs.Seats.{bare_at, own_at}
use Rattle.home_seats.proofs.Taking.{takes}
use Rattle.home_seats.proofs.seat.SeatAtLockTurnSeat.turn.Goals as goal

pub returns-clause-takes : goal.returns-clause-takes
returns-clause-takes g c =
    let seat = c.unwrap-seat.result in
    let given = cut_moment c.args.moment in
    let new = c.take_turn-seat.result.0 in
    let told = c.take_turn-seat.result.1.told in
    let was : Some seat ≡ c.args.self.now.seat = search rules in
    subst (λ (s : Option _). Takes (bare_at c.args.self.now.lock s).caller given c.args.turn (own_at s)
    (own_at (Some new)) told.answer) was
    (takes given c.args.turn seat new c.new-asked.result told c.take_turn-seat.result.1.receipt.place
    c.new-asked.ensures.turn (c.new-asked.ensures.moment ∙ c.cut_moment.ensures.value) c.take_turn-seat.ensures.turn)
