-- Without memory for the entries there is no turn.
use Rattle.std.proofs.Common.{refl}
use Rattle.pw_types.specs.Moment.{cut_moment}
use Rattle.request_turns.proofs.Taking.{makes_none}
use Rattle.request_turns.proofs.take.take_turns.Goals as goal

pub returns-in-Err-clause-makes : goal.returns-in-Err-clause-makes
returns-in-Err-clause-makes g c =
    let own = g.S.TurnSeat.own c.args.seat.now in
    makes_none (g.S.TurnSeat.bare c.args.seat.now).caller (cut_moment c.args.moment) c.args.request.now own own refl

pub returns-in-Err-look_room-clause-makes : goal.returns-in-Err-look_room-clause-makes
returns-in-Err-look_room-clause-makes g c =
    let own = g.S.TurnSeat.own c.args.seat.now in
    makes_none (g.S.TurnSeat.bare c.args.seat.now).caller (cut_moment c.args.moment) c.args.request.now own own refl
