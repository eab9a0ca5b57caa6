-- A home that was begun can be served and ended, and its clients have all numbers of its locks.
use Rattle.std.proofs.Common.{map}
use Rattle.std.proofs.lemmas.List.Elements.{All-from_recursion}
use Rattle.board_device.specs.Device.{seen_by}
use Rattle.client_seats.specs.Clients.{client_view}
use Rattle.client_seats.specs.Gathering.{HaveEachNumber}
use Rattle.home_seats.specs.Seats.{lock_seen}
use Rattle.serve_run.proofs.Numbers.{both_ok, dealt_have_numbers, each_of, have_numbers, weaker_ok}
use Rattle.home_tests.proofs.homes.begin_over.Goals as goal

pub returns-clause-servable : goal.returns-clause-servable
returns-clause-servable g c =
    weaker_ok c.begin_home.result _ _
    (λ begun is. c.begun_home_is_servable.ensures c.args.board c.args.named.items c.args.opening.now
    begun.home.shared.first.device begun.home.shared.id begun.home.names.items
    (map (λ lock. lock_seen lock.id lock.first.seat lock.first.state lock.first.era) begun.home.locks.items)
    begun.home.idle is)
    c.begin_home.ensures.begun

pub returns-clause-can : goal.returns-clause-can
returns-clause-can g c =
    weaker_ok c.begin_home.result _ _
    (λ begun is. c.begun_home_can_end.ensures c.args.board c.args.named.items c.args.opening.now
    begun.home.shared.first.device begun.home.shared.id begun.home.names.items
    (map (λ lock. lock_seen lock.id lock.first.seat lock.first.state lock.first.era) begun.home.locks.items)
    begun.home.idle is)
    c.begin_home.ensures.begun

pub returns-clause-numbers : goal.returns-clause-numbers
returns-clause-numbers g c =
    weaker_ok c.begin_home.result _ _
    (λ begun is. All-from_recursion _ begun.home.locks.items (each_of (λ at. HaveEachNumber (map (λ client. client.number) begun.clients.items) at.lock.callers)
    (λ lock. lock_seen lock.id lock.first.seat lock.first.state lock.first.era) begun.home.locks.items
    (have_numbers (seen_by g.B.Board.faults begun.home.shared.first.device) begun.home.shared.id c.args.opening.now
    (map (λ client. client.number) begun.clients.items) 0 begun.home.names.items
    (map (λ lock. lock_seen lock.id lock.first.seat lock.first.state lock.first.era) begun.home.locks.items)
    is.0.opened
    (dealt_have_numbers client_view (map (λ lock. lock.id) begun.home.locks.items) c.args.opening.now.clients
    begun.clients.items is.1))))
    (both_ok c.begin_home.result _ _ c.begin_home.ensures.begun c.begin_home.ensures.clients)
