-- The home is begun over the device that was opened, or that device is all there was.
use Rattle.std.proofs.Common.{◌≡◌, [], map, length, Some, refl, sym, ap, ◌∙◌}
use Rattle.std.proofs.lemmas.List.{length-map}
use Rattle.std.proofs.lemmas.List.FromFn.{length-map-range_with_len}
use Rattle.board_device.specs.Device.{seen_by}
use Rattle.client_seats.specs.Clients.{client_view, new_client}
use Rattle.home_begin.proofs.Begun.{are_owners}
use Rattle.home_begin.proofs.Stopping.{not_begun}
use Rattle.home_begin.proofs.Whole.{err_gives, is_begun, ok_gives, ok_with}
use Rattle.home_begin.proofs.beginning.begin_home.Goals as goal

pub begin_over-requires-clause-owners : goal.begin_over-requires-clause-owners
begin_over-requires-clause-owners g c =
    let device = c.in-Ok.opened.0 in
    are_owners (seen_by g.B.Board.faults device) [] c.in-Ok.opened.1.items 0 refl
    (ap (map (λ account. Some account)) (sym c.in-Ok.ensures.names)) c.in-Ok.ensures.plain

pub returns-clause-begun : goal.returns-clause-begun
returns-clause-begun g c =
    let over = c.begin_over.ensures in
    let result = c.begin_over.result in
    let device = c.in-Ok.opened.0 in
    let found = c.in-Ok.ensures in
    ok_gives result _ _
    (λ begun is. is_begun g.B.Board.disk g.B.Board.faults c.args.board c.args.named.items c.args.opening.now device
    begun.home.shared.first.device begun.home.shared.id c.in-Ok.opened.1.items begun.home.names.items _ _
    begun.home.idle found.opened found.era found.names found.apart is.0 is.1.0 is.1.1.0
    (length-map begun.home.locks.items _) is.1.1.1)
    (ok_with result _ _ over.device (ok_with result _ _ over.names (ok_with result _ _ over.opened over.idle)))

pub returns-clause-many : goal.returns-clause-many
returns-clause-many g c =
    ok_gives c.begin_over.result _ _
    (λ begun dealt. sym (length-map begun.clients.items client_view) ∙ ap length dealt
    ∙ length-map-range_with_len (new_client (map (λ lock. lock.id) begun.home.locks.items)) 0
    c.args.opening.now.clients)
    c.begin_over.ensures.clients

pub returns-clause-refused : goal.returns-clause-refused
returns-clause-refused g c =
    err_gives c.begin_over.result _ _
    (λ refused stops. not_begun g.B.Board.disk g.B.Board.faults c.args.board c.args.named.items c.in-Ok.opened.0
    c.args.opening.now refused.0 refused.1 c.in-Ok.ensures.opened c.in-Ok.ensures.era stops)
    c.begin_over.ensures.stops
