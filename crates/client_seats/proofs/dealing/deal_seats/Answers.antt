-- The clients have their numbers, and room for a seat of each lock.
use Rattle.std.proofs.Common.{arith, ◌≡◌, ◌<◌, ◌++◌, map, length, take, drop, ap, sym, subst, ◌∙◌}
use Rattle.std.specs.List.{AllByRecursion, range_with_len}
use Rattle.std.proofs.lemmas.Grind.{common_steps}
use Rattle.client_seats.specs.Clients.{client_view}
use Rattle.client_seats.specs.Dealing.{HasRoom, room_view, with_seats}
use Rattle.client_seats.proofs.DealingLemmas.{clients_made, numbers_made, rooms_made, clients_dealt, as_many_dealt, dealt_have_seats, dealt_have_numbers}
use Rattle.client_seats.proofs.dealing.deal_seats.Goals as goal

pub deal_all-requires-clause-callers : goal.deal_all-requires-clause-callers
deal_all-requires-clause-callers g c k d below =
    c.requires.callers k d below
    ∙ sym (ap length c.as_mut_slice.ensures.value ∙ clients_made c.in-Ok.made.items _ _ c.in-Ok.ensures)

pub deal_all-requires-clause-some : goal.deal_all-requires-clause-some
deal_all-requires-clause-some g c =
    subst (λ n. 0 < n)
    (sym (ap length c.as_mut_slice.ensures.value ∙ clients_made c.in-Ok.made.items _ _ c.in-Ok.ensures))
    c.requires.some

pub deal_all-requires-clause-numbers : goal.deal_all-requires-clause-numbers
deal_all-requires-clause-numbers g c =
    ap (map (λ client. client.number)) c.as_mut_slice.ensures.value
    ∙ numbers_made c.in-Ok.made.items _ _ c.in-Ok.ensures
    ∙ ap (range_with_len 0)
    (sym (ap length c.as_mut_slice.ensures.value ∙ clients_made c.in-Ok.made.items _ _ c.in-Ok.ensures))

pub deal_all-requires-clause-room : goal.deal_all-requires-clause-room
deal_all-requires-clause-room g c =
    subst (λ clients. AllByRecursion (HasRoom (length c.args.locks.now)) (map room_view clients))
    (sym c.as_mut_slice.ensures.value) (rooms_made c.in-Ok.made.items _ _ c.in-Ok.ensures)

pub returns-clause-dealt : goal.returns-clause-dealt
returns-clause-dealt g c =
    let old = c.in-Ok.made.items in
    let new = c.deal_all.new.clients in
    let ids = map (λ lock. lock.id) c.args.locks.now in
    let dealt = c.deal_all.ensures
    ∙ ap (λ clients. map (with_seats ids) (map room_view clients)) c.as_mut_slice.ensures.value in
    let size = as_many_dealt ids old new dealt in
    let whole : take c.in-Ok.made.len (new ++ drop (length new) old) ≡ new = grind (arith, common_steps) in
    ap (map client_view) whole ∙ clients_dealt old _ _ c.in-Ok.ensures ids new dealt

pub returns-clause-seats : goal.returns-clause-seats
returns-clause-seats g c =
    dealt_have_seats (map (λ lock. lock.id) c.args.locks.now) _ _ (returns-clause-dealt g c)

pub returns-clause-numbers : goal.returns-clause-numbers
returns-clause-numbers g c k d below =
    dealt_have_numbers (map (λ lock. lock.id) c.args.locks.now) _ _ _ (returns-clause-dealt g c)
    (c.requires.callers k d below)
