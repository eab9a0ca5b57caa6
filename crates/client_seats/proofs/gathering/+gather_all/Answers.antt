-- The last lock's seats are joined behind the others.
use Rattle.std.proofs.Common.{rules, arith, ◌≡◌, ◌∷◌, [], ◌+◌, map, length, Some, ap, sym, subst, ◌∙◌, All}
use Rattle.std.proofs.lemmas.List.{map-append, length-append}
use Rattle.std.proofs.lemmas.List.Elements.{All-pop}
use Rattle.client_seats.specs.Clients.{client_view}
use Rattle.client_seats.specs.Gathering.{HaveEachNumber}
use Rattle.client_seats.proofs.GatheringLemmas.{have_last, others_stay, numbers_stay, gathers_more}
use Rattle.client_seats.proofs.gathering.+gather_all.Goals as goal

pub join_last-seat-requires-clause-last : goal.join_last-seat-requires-clause-last
join_last-seat-requires-clause-last g t c =
    have_last _ _ c.in-Some.lock.id _
    (ap (map (λ lock. lock.id)) c.in-Some.ensures.items
    ∙ map-append (λ lock. lock.id) c.pop.new.self.items (c.in-Some.lock ∷ []))
    c.requires.seats

-- The other locks, with the clients' seats of them.
pub gather_all-requires : goal.gather_all-requires
gather_all-requires g t c κs within =
    let items = c.in-Some.ensures.items in
    let joins = c.join_last-seat.ensures in
    let old = map client_view c.args.clients.now in
    let ids = ap (map (λ lock. lock.id)) items
    ∙ map-append (λ lock. lock.id) c.pop.new.self.items (c.in-Some.lock ∷ []) in
    let each = All-pop (λ lock. HaveEachNumber (map (λ client. client.number) old) lock.id.callers) _ _
    (Some c.in-Some.lock) items c.requires.numbers in
    let long : length c.join_last-seat.new.clients ≡ length c.args.clients.now = search rules in
    let popped : length c.args.locks.items ≡ length c.pop.new.self.items + 1 =
    ap length items ∙ length-append c.pop.new.self.items (c.in-Some.lock ∷ []) in
    let some = c.requires.some in
    let room = c.requires.room in (
      search rules,
      (
        within.0,
        (
          within.1,
          (
            omega (arith, long, some),
            (
              others_stay _ _ c.in-Some.lock.id _ _ c.join_last-seat.result ids joins c.requires.seats,
              (
                subst (λ numbers. All (λ lock. HaveEachNumber numbers lock.id.callers) c.pop.new.self.items)
                    (sym (numbers_stay c.in-Some.lock.id _ _ c.join_last-seat.result joins)) each.0,
                omega (arith, popped, room),
              ),
            ),
          ),
        ),
      ),
    )

pub returns-clause-gathers : goal.returns-clause-gathers
returns-clause-gathers g t c =
    let items = c.in-Some.ensures.items in
    let old = map client_view c.args.clients.now in
    let each = All-pop (λ lock. HaveEachNumber (map (λ client. client.number) old) lock.id.callers) _ _
    (Some c.in-Some.lock) items c.requires.numbers in
    gathers_more _ _ c.in-Some.lock _ _ c.join_last-seat.result _ _ _ items c.requires.seats each.1
    c.join_last-seat.ensures c.gather_all.ensures.gathers c.push_reserved.ensures.items
