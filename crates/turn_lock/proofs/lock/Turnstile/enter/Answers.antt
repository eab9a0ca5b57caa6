-- A seat at rest may draw a ticket.
use Rattle.std.proofs.Common.{rules}
use Rattle.turn_lock.proofs.Drawing.{draws}
use Rattle.turn_lock.proofs.lock.Turnstile.enter.Goals as goal

pub fetch_add-ticket-requires : goal.fetch_add-ticket-requires
fetch_add-ticket-requires g c =
    let rests = c.seat.invariant.0 in
    (search rules, search rules, draws g.T.Tale.caller _ _ _ _ _ rests.live rests.idle)
