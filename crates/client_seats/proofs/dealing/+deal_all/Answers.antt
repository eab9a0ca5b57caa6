-- The last lock's seat is dealt behind the others.
use Rattle.std.proofs.Common.{rules, ◌≡◌, map, length, Some, ap, sym, subst, ◌∙◌}
use Rattle.std.specs.List.{AllByRecursion, range_with_len}
use Rattle.std.proofs.lemmas.List.{length-map}
use Rattle.std.proofs.lemmas.List.Elements.{All-pop}
use Rattle.turn_lock.specs.Seats.{first_seat}
use Rattle.client_seats.specs.Dealing.{HasRoom, room_view}
use Rattle.client_seats.proofs.ListLemmas.{popped_images}
use Rattle.client_seats.proofs.DealingLemmas.{no_locks, last_dealt, room_less, room_for_last, same_numbers}
use Rattle.client_seats.proofs.dealing.+deal_all.Goals as goal

pub returns-in_default : goal.returns-in_default
returns-in_default g t c = no_locks (λ lock. lock.id) c.args.locks.now _ c.in_default.ensures.cases

-- The locks but for the last, with their seats.
pub deal_all-requires : goal.deal_all-requires
deal_all-requires g t c κs within =
    let split = c.in-Some.ensures.cases in
    let parts = popped_images (λ lock. first_seat lock.id) _ _ c.in-Some.lock.now _ _ _ _ split.0
    c.requires.seats c.pop.ensures.items c.unwrap-seat.ensures in
    let callers = All-pop (λ lock. lock.id.callers ≡ length c.args.clients.now) _ _ (Some c.in-Some.lock.now)
    split.0 c.requires.callers in
    let room = room_less (length c.in-Some.others.now) _
    (subst (λ n. AllByRecursion (HasRoom n) (map room_view c.args.clients.now)) (sym split.1) c.requires.room) in (
      search rules,
      (within.0, (within.1, (parts.0, (callers.0, (c.requires.some, (c.requires.numbers, room)))))),
    )

pub deal_seat-requires-clause-first : goal.deal_seat-requires-clause-first
deal_seat-requires-clause-first g t c =
    (popped_images (λ lock. first_seat lock.id) _ _ c.in-Some.lock.now _ _ _ _ c.in-Some.ensures.cases.0
    c.requires.seats c.pop.ensures.items c.unwrap-seat.ensures).1

pub deal_seat-requires-clause-numbers : goal.deal_seat-requires-clause-numbers
deal_seat-requires-clause-numbers g t c =
    let callers = All-pop (λ lock. lock.id.callers ≡ length c.args.clients.now) _ _ (Some c.in-Some.lock.now)
    c.in-Some.ensures.cases.0 c.requires.callers in
    same_numbers _ _ _ c.deal_all.ensures ∙ c.requires.numbers ∙ ap (range_with_len 0) (sym callers.1)

pub deal_seat-requires-clause-room : goal.deal_seat-requires-clause-room
deal_seat-requires-clause-room g t c =
    let others = c.in-Some.others.now in
    let views = map room_view c.args.clients.now in
    subst (AllByRecursion (HasRoom 1)) (sym c.deal_all.ensures)
    (room_for_last (map (λ lock. lock.id) others) (length others) views (length-map others _)
    (subst (λ n. AllByRecursion (HasRoom n) views) (sym c.in-Some.ensures.cases.1) c.requires.room))

pub returns : goal.returns
returns g t c =
    last_dealt (λ lock. lock.id) _ _ c.in-Some.lock.now _ _ _ c.in-Some.ensures.cases.0 c.deal_all.ensures
    c.deal_seat.ensures
