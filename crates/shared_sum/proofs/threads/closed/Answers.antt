-- The joined seat has the numbers of all callers, and knows their turns.
use Rattle.std.proofs.Common.{arith, ap}
use Rattle.shared_sum.proofs.Turns.{each_number_made}
use Rattle.shared_sum.proofs.threads.closed.Goals as goal

pub close-requires-clause-numbers : goal.close-requires-clause-numbers
close-requires-clause-numbers c number below =
    let callers = ap (λ lock. lock.callers) c.in_ok-seat.ensures.of in
    let joined = c.in_ok-seat.ensures.numbers number in
    let stands = c.requires.numbers number (omega arith) in omega arith

pub returns-clause-turns : goal.returns-clause-turns
returns-clause-turns c turns caller each below =
    let joined = c.in_ok-seat.ensures.numbers caller in
    let stands = c.requires.numbers caller below in
    each_number_made turns caller c.close.result.1 c.in_ok-seat.seat c.close.ensures.entries
    (c.in_ok-seat.ensures.turns turns each) (omega arith)
