-- A client more is turned round.
use Rattle.std.proofs.Common.{rules, arith, ◌≡◌, [], ◌∷◌, map, length, Some, ap, ◌∙◌, length-append}
use Rattle.std.proofs.lemmas.List.{map-append, nil_from_length}
use Rattle.std.proofs.lemmas.List.Elements.{All-push, All-pop, All-same}
use Rattle.turn_lock.specs.Lists.{count_of}
use Rattle.client_seats.specs.Clients.{client_view, HasItsSeats}
use Rattle.client_seat_tests.proofs.SeatLemmas.{count_of-last}
use Rattle.client_seat_tests.proofs.seats.turned_round.Goals as goal

pub loop-client-preserved : goal.loop-client-preserved
loop-client-preserved c =
    let kept = c.loop-client.invariant in
    let items = c.in-Some.ensures.items in
    let pushed = c.push_reserved.ensures.items in
    let client = c.in-Some.client in
    let shorter = ap length items ∙ length-append _ (client ∷ []) in
    let longer = ap length pushed ∙ length-append _ (client ∷ []) in
    let long = kept.0 in (
      omega (arith, shorter, longer, long),
      search rules,
      λ locks each.
          let was = kept.2 locks each in
          let parts = All-pop (HasItsSeats locks) _ _ (Some (client_view client))
          (ap (map client_view) items ∙ map-append client_view _ (client ∷ [])) was.0 in (
            parts.0,
            All-same (HasItsSeats locks) _ _
                (ap (map client_view) pushed ∙ map-append client_view _ (client ∷ []))
                (All-push (HasItsSeats locks) _ _ was.1 parts.1),
          ),
      λ number.
          let less = count_of-last (λ client. client.number) number _ _ client items in
          let more = count_of-last (λ client. client.number) number _ _ client pushed in
          let was = kept.3 number in omega (arith, less, more, was),
    )

pub returns-clause-numbers : goal.returns-clause-numbers
returns-clause-numbers c bound each number below =
    let all = each number below in
    let both = c.loop-client.invariant.3 number in
    let left : length c.loop-client.clients.items ≡ 0 = search rules in
    let none = ap (λ clients. count_of number (map (λ client. client.number) clients))
    (nil_from_length c.loop-client.clients.items left) in
    omega (arith, both, none, all)
