-- The clients that were opened were served, or one couldn't be opened and none was.
use Rattle.std.proofs.Common.{◌≡◌, ◌<◌, arith, map, length, refl, sym, ap, ◌∙◌}
use Rattle.std.specs.List.{range_with_len}
use Rattle.client_seats.specs.Clients.{client_view, new_client}
use Rattle.served_books.proofs.Output.{as_many_seats}
use Rattle.serve_run.proofs.Opening.{opened_ends, stopped_ends}
use Rattle.serve_run.proofs.serve.serve_begun.Goals as goal

pub end_home-board-requires-clause-some : goal.end_home-board-requires-clause-some
end_home-board-requires-clause-some g c =
    let many = as_many_seats client_view (map (λ lock. lock.id) c.args.begun.home.locks.items) c.args.serving.count
    c.args.begun.clients.items c.requires.dealt in
    let some = c.requires.some in
    omega (arith, many, some)

pub end_home-board-requires-clause-dealt : goal.end_home-board-requires-clause-dealt
end_home-board-requires-clause-dealt g c =
    let many = as_many_seats client_view (map (λ lock. lock.id) c.args.begun.home.locks.items) c.args.serving.count
    c.args.begun.clients.items c.requires.dealt in
    c.requires.dealt
    ∙ ap (λ n. map (new_client (map (λ lock. lock.id) c.args.begun.home.locks.items)) (range_with_len 0 n)) (sym many)

pub returns-in-Ok-clause-ends : goal.returns-in-Ok-clause-ends
returns-in-Ok-clause-ends g c =
    opened_ends _ _ _ _ _ _ _ _ _ c.serve_opened.ensures.ends.0 c.requires.empty c.in-Ok.ensures.ok
    (c.in-Ok.ensures.cause.kept (λ failed. failed)) c.serve_opened.ensures.ends.1 c.serve_opened.ensures.ends.2
    c.serve_opened.ensures.ends.3

pub returns-in-Err-clause-ends : goal.returns-in-Err-clause-ends
returns-in-Err-clause-ends g c =
    let many = as_many_seats client_view (map (λ lock. lock.id) c.args.begun.home.locks.items) c.args.serving.count
    c.args.begun.clients.items c.requires.dealt in
    stopped_ends _ _ _ _ _ _ _ _ _ c.in-Err.client (length c.args.begun.clients.items) c.in-Err.fault c.requires.empty
    c.in-Err.ensures.err.1 c.in-Err.ensures.err.0 c.in-Err.ensures.cause c.ending_unopened.ensures.value refl many
    c.end_home-board.ensures.unserved
