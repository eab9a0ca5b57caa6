-- The seats are those that were dealt, and know nothing.
use Rattle.std.proofs.Common.{map, refl}
use Rattle.std.specs.Prelude.{[], None}
use Rattle.client_seats.specs.Clients.{client_view}
use Rattle.served_books.proofs.Output.{left_seats, no_turns}
use Rattle.home_serving.proofs.serving.end_home.Goals as goal

-- there are no clients' ends
pub settle_home-requires-clause-seats : goal.settle_home-requires-clause-seats
settle_home-requires-clause-seats g c =
    left_seats {S = Unit {0}} {K = Unit {0}} {C = Unit {0}} (λ _. None) (λ _. 0) (λ _. 0) (λ _. None) (λ _. 0)
    (λ _. None) client_view c.args.home.names.items (map (λ lock. lock.id) c.args.home.locks.items) 0 [] []
    c.args.seats.items c.args.seats.items _ None tt (refl, refl) c.requires.dealt

pub returns-clause-unserved : goal.returns-clause-unserved
returns-clause-unserved g c =
    no_turns (map (λ lock. lock.id) c.args.home.locks.items) _ (map client_view c.args.seats.items)
    c.settle_home.result.books.items c.requires.dealt c.settle_home.ensures.own
