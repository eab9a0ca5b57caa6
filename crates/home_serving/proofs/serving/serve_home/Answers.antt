-- The seats can be joined as they are left, and what they know is in the books.
use Rattle.std.proofs.Common.{arith, ◌≡◌, ◌<◌, All, map, length, sym, ap, subst, ◌∙◌}
use Rattle.std.proofs.lemmas.List.{length-map}
use Rattle.client_seats.specs.Clients.{client_view}
use Rattle.client_seats.specs.Gathering.{HaveEachNumber}
use Rattle.served_books.proofs.Output.{as_many_left, as_many_seats, end_served, end_unserved, left_seats}
use Rattle.home_serving.proofs.serving.serve_home.Goals as goal

pub settle_home-requires-clause-some : goal.settle_home-requires-clause-some
settle_home-requires-clause-some g c =
    let numbers = as_many_left g.S.Source.left g.S.Source.taken g.S.Source.faults g.K.Sink.written g.K.Sink.faults
    g.C.Clock.given client_view c.args.home.names.items (map (λ lock. lock.id) c.args.home.locks.items) c.args.first
    c.args.ends.items c.serve_open-clients.result.clients.items c.args.seats.items
    c.serve_open-clients.result.seats.items
    (length c.args.ends.items) c.serve_open-clients.result.end c.serve_open-clients.ensures.served
    c.serve_open-clients.ensures.unserved in
    let many : length c.serve_open-clients.result.seats.items ≡ length c.args.ends.items =
    sym (length-map c.serve_open-clients.result.seats.items _) ∙ ap length numbers ∙ length-map c.args.seats.items _
    ∙ as_many_seats client_view (map (λ lock. lock.id) c.args.home.locks.items) _ c.args.seats.items
    c.requires.dealt in
    let some = c.requires.some in
    omega (arith, many, some)

pub settle_home-requires-clause-seats : goal.settle_home-requires-clause-seats
settle_home-requires-clause-seats g c =
    left_seats g.S.Source.left g.S.Source.taken g.S.Source.faults g.K.Sink.written g.K.Sink.faults g.C.Clock.given
    client_view c.args.home.names.items (map (λ lock. lock.id) c.args.home.locks.items) c.args.first c.args.ends.items
    c.serve_open-clients.result.clients.items c.args.seats.items c.serve_open-clients.result.seats.items
    (length c.args.ends.items)
    c.serve_open-clients.result.end c.serve_open-clients.ensures.served c.serve_open-clients.ensures.unserved
    c.requires.dealt

pub settle_home-requires-clause-numbers : goal.settle_home-requires-clause-numbers
settle_home-requires-clause-numbers g c =
    let numbers = as_many_left g.S.Source.left g.S.Source.taken g.S.Source.faults g.K.Sink.written g.K.Sink.faults
    g.C.Clock.given client_view c.args.home.names.items (map (λ lock. lock.id) c.args.home.locks.items) c.args.first
    c.args.ends.items c.serve_open-clients.result.clients.items c.args.seats.items
    c.serve_open-clients.result.seats.items
    (length c.args.ends.items) c.serve_open-clients.result.end c.serve_open-clients.ensures.served
    c.serve_open-clients.ensures.unserved in
    subst (λ numbers. All (λ lock. HaveEachNumber numbers lock.id.callers) c.args.home.locks.items) (sym numbers)
    c.requires.numbers

pub returns-clause-served : goal.returns-clause-served
returns-clause-served g c =
    end_served g.S.Source.left g.S.Source.taken g.S.Source.faults g.K.Sink.written g.K.Sink.faults g.C.Clock.given
    client_view c.args.home.names.items (map (λ lock. lock.id) c.args.home.locks.items) c.args.first c.args.ends.items
    c.serve_open-clients.result.clients.items c.args.seats.items c.serve_open-clients.result.seats.items
    (length c.args.ends.items)
    c.settle_home.result.books.items c.serve_open-clients.result.end
    (length-map c.args.home.locks.items (λ lock. lock.id) ∙ sym c.settle_home.ensures.many)
    c.serve_open-clients.ensures.served c.requires.dealt c.settle_home.ensures.own

pub returns-clause-unserved : goal.returns-clause-unserved
returns-clause-unserved g c =
    end_unserved g.S.Source.left g.S.Source.taken g.S.Source.faults g.K.Sink.written g.K.Sink.faults g.C.Clock.given
    client_view c.args.home.names.items (map (λ lock. lock.id) c.args.home.locks.items) c.args.first c.args.ends.items
    c.serve_open-clients.result.clients.items c.args.seats.items c.serve_open-clients.result.seats.items
    (length c.args.ends.items)
    c.settle_home.result.books.items c.serve_open-clients.result.end c.serve_open-clients.ensures.unserved
    c.requires.dealt
    c.settle_home.ensures.own
