-- One clearing, and others behind it.
use Rattle.std.proofs.Common.{rules, ◌≡◌, ◌+◌, length, true, subst}
use Rattle.pw_types.specs.Moment.{cut_moment}
use Rattle.client_output.specs.Turns.{AreClearings, has_cleared}
use Rattle.client_output.specs.Seats.{BareSeat}
use Rattle.request_turns.specs.Taken.{GrowsBy}
use Rattle.request_turns.proofs.Taking.{clear_more}
use Rattle.request_turns.proofs.take.+clear.Goals as goal

pub returns-clause-clears : goal.returns-clause-clears
returns-clause-clears g t c =
    let given = cut_moment c.args.moment in
    let rest = length c.pop.new.self.items in
    let one : length c.args.blanks.items ≡ rest + 1 = search rules in
    let did : has_cleared c.turn-answer.result ≡ true = search rules in
    clear_more (g.S.TurnSeat.bare c.args.seat.now).caller given (length c.args.blanks.items) rest c.args.token
    (g.S.TurnSeat.own c.args.seat.now) (g.S.TurnSeat.own c.turn-answer.new.self) (g.S.TurnSeat.own c.clear.new.seat)
    c.turn-answer.result one c.turn-answer.ensures.takes did
    (subst (λ (b : BareSeat). GrowsBy (AreClearings b.caller given rest c.args.token)
    (g.S.TurnSeat.own c.turn-answer.new.self) (g.S.TurnSeat.own c.clear.new.seat))
    c.turn-answer.ensures.bare c.clear.ensures.clears)
