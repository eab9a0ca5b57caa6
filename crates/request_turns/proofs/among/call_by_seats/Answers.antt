-- The account is one of these, or none.
use Rattle.request_turns.proofs.Placing.{calls_known, calls_unknown}
use Rattle.request_turns.proofs.among.call_by_seats.Goals as goal

pub returns-in-Some-clause-calls : goal.returns-in-Some-clause-calls
returns-in-Some-clause-calls g c = λ caller all.
    calls_known g.S.TurnSeat.own caller c.args.moment c.args.request.now c.in-Some.answer c.args.names.now
    c.args.seats.now c.take_turns_among.new.seats c.requires.many c.in-Some.ensures.known
    (c.in-Some.ensures.makes caller all)

pub returns-in-None-clause-calls : goal.returns-in-None-clause-calls
returns-in-None-clause-calls g c = λ caller all.
    calls_unknown g.S.TurnSeat.own caller c.args.moment c.args.request.now c.args.names.now
    c.args.seats.now c.take_turns_among.new.seats c.requires.many c.in-None.ensures.unknown c.in-None.ensures.none
