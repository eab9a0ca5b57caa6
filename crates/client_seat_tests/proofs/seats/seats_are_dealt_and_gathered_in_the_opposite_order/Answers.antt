-- The clients have each number in either order, and each gathered lock has its whole seat.
use Rattle.std.proofs.Common.{Some, map, All, slice_index_or, subst}
use Rattle.std.proofs.lemmas.List.Elements.{All-pop}
use Rattle.client_seats.specs.Gathering.{HaveEachNumber, IsWholeSeat}
use Rattle.client_seat_tests.proofs.seats.seats_are_dealt_and_gathered_in_the_opposite_order.Goals as goal

pub gather_seats-wholes-requires-clause-numbers : goal.gather_seats-wholes-requires-clause-numbers
gather_seats-wholes-requires-clause-numbers g c k d below =
    let numbers = map (λ client. client.number) c.in-Ok-deal_seats.dealt.items in
    let each = subst (All (λ lock. HaveEachNumber numbers lock.id.callers)) c.as_slice.ensures.value
    c.in-Ok-deal_seats.ensures.numbers in
    c.turned_round-turned.ensures.numbers (slice_index_or c.in-Ok-vec.locks.items k d).id.callers (each k d below)

pub close-chain-requires-clause-of : goal.close-chain-requires-clause-of
close-chain-requires-clause-of g c =
    (All-pop (λ whole. IsWholeSeat whole.lock.id whole.seat) _ _ (Some c.in-Some.field-0) c.in-Some.ensures.items
    c.gather_seats-wholes.ensures.whole).1.of

pub close-chain-requires-clause-numbers : goal.close-chain-requires-clause-numbers
close-chain-requires-clause-numbers g c =
    (All-pop (λ whole. IsWholeSeat whole.lock.id whole.seat) _ _ (Some c.in-Some.field-0) c.in-Some.ensures.items
    c.gather_seats-wholes.ensures.whole).1.numbers

pub close-chain-requires-2-clause-of : goal.close-chain-requires-2-clause-of
close-chain-requires-2-clause-of g c =
    let left = All-pop (λ whole. IsWholeSeat whole.lock.id whole.seat) _ _ (Some c.in-Some.field-0)
    c.in-Some.ensures.items c.gather_seats-wholes.ensures.whole in
    (All-pop (λ whole. IsWholeSeat whole.lock.id whole.seat) _ _ (Some c.in-Some-pop.field-0)
    c.in-Some-pop.ensures.items left.0).1.of

pub close-chain-requires-2-clause-numbers : goal.close-chain-requires-2-clause-numbers
close-chain-requires-2-clause-numbers g c =
    let left = All-pop (λ whole. IsWholeSeat whole.lock.id whole.seat) _ _ (Some c.in-Some.field-0)
    c.in-Some.ensures.items c.gather_seats-wholes.ensures.whole in
    (All-pop (λ whole. IsWholeSeat whole.lock.id whole.seat) _ _ (Some c.in-Some-pop.field-0)
    c.in-Some-pop.ensures.items left.0).1.numbers
