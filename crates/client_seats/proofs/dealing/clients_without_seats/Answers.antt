-- One client more has the next number, and room for its seats.
use Rattle.std.proofs.Common.{rules}
use Rattle.client_seats.proofs.DealingLemmas.{one_client_more}
use Rattle.client_seats.proofs.dealing.clients_without_seats.Goals as goal

pub loop-number-preserved : goal.loop-number-preserved
loop-number-preserved g c =
    one_client_more _ _ _ c.args.accounts _ c.loop-number.invariant c.in_ok-push.ensures.items (search rules)
