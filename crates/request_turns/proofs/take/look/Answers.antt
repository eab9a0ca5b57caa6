-- A look, and what follows it.
use Rattle.std.proofs.Common.{rules, ◌≡◌, true, false, subst}
use Rattle.pw_types.specs.Moment.{cut_moment}
use Rattle.account_machine.specs.declared.request.Turn.{Turn}
use Rattle.account_machine.specs.declared.request.Turn.TheVariants as turns
use Rattle.client_output.specs.Turns.{label_looked, has_seen}
use Rattle.request_turns.specs.Taken.{Takes}
use Rattle.request_turns.proofs.Taking.{some_of, looks_alone, looks_only}
use Rattle.request_turns.proofs.take.look.Goals as goal

-- the look didn't see
pub returns-then-not-has_seen-clause-looks : goal.returns-then-not-has_seen-clause-looks
returns-then-not-has_seen-clause-looks g c =
    let caller = (g.S.TurnSeat.bare c.args.seat.now).caller in
    let given = cut_moment c.args.moment in
    let old = g.S.TurnSeat.own c.args.seat.now in
    let mid = g.S.TurnSeat.own c.turn-answer.new.self in
    let at = some_of (λ label. c.args.first.turn ≡ turns.Look label) (label_looked c.args.request.now) c.requires.look
    in
    let takes =
    subst (λ (t : Turn). Takes caller given t old mid c.turn-answer.result) at.2 c.turn-answer.ensures.takes in
    let unseen : has_seen c.turn-answer.result ≡ false = search rules in
    looks_alone caller given c.args.request.now at.0 at.1 old mid c.turn-answer.result takes unseen

-- there was no memory to get ready for the act
pub returns-in-Err-clause-looks : goal.returns-in-Err-clause-looks
returns-in-Err-clause-looks g c =
    let caller = (g.S.TurnSeat.bare c.args.seat.now).caller in
    let given = cut_moment c.args.moment in
    let old = g.S.TurnSeat.own c.args.seat.now in
    let mid = g.S.TurnSeat.own c.turn-answer.new.self in
    let at = some_of (λ label. c.args.first.turn ≡ turns.Look label) (label_looked c.args.request.now) c.requires.look
    in
    let takes =
    subst (λ (t : Turn). Takes caller given t old mid c.turn-answer.result) at.2 c.turn-answer.ensures.takes in
    let seen : has_seen c.turn-answer.result ≡ true = search rules in
    looks_only caller given c.args.request.now at.0 at.1 old mid (g.S.TurnSeat.own c.prepare.new.self)
    c.turn-answer.result takes seen c.prepare.ensures.own
