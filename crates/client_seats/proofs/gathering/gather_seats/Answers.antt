-- All locks are gathered, with none before them.
use Rattle.std.proofs.Common.{◌<◌, map, ap, sym, subst, ◌∙◌}
use Rattle.std.specs.List.{AllByRecursion}
use Rattle.std.proofs.lemmas.List.Elements.{recursion_from_All}
use Rattle.turn_lock.specs.Lists.{count_of}
use Rattle.client_seats.specs.Clients.{client_view, HasItsSeats}
use Rattle.client_seats.specs.Gathering.{Gathers}
use Rattle.client_seats.proofs.DealingLemmas.{numbers_viewed}
use Rattle.client_seats.proofs.GatheringLemmas.{all_locks, all_whole, all_know}
use Rattle.client_seats.proofs.gathering.gather_seats.Goals as goal

pub gather_all-requires-clause-seats : goal.gather_all-requires-clause-seats
gather_all-requires-clause-seats g c =
    let ids = map (λ lock. lock.id) c.args.locks.items in
    subst (λ clients. AllByRecursion (HasItsSeats ids) (map client_view clients))
    (sym c.as_mut_slice.ensures.value) (recursion_from_All _ _ c.requires.seats)

pub gather_all-requires-clause-numbers : goal.gather_all-requires-clause-numbers
gather_all-requires-clause-numbers g c k d below number inside =
    subst (λ numbers. 0 < count_of number numbers)
    (sym (ap (λ clients. map (λ client. client.number) (map client_view clients)) c.as_mut_slice.ensures.value
    ∙ numbers_viewed c.args.clients.items))
    (c.requires.numbers k d below number inside)

pub returns-clause-locks : goal.returns-clause-locks
returns-clause-locks g c = all_locks _ _ _ _ c.gather_all.ensures.gathers c.requires.empty

pub returns-clause-whole : goal.returns-clause-whole
returns-clause-whole g c = all_whole _ _ _ _ c.gather_all.ensures.gathers c.requires.empty

pub returns-clause-knows : goal.returns-clause-knows
returns-clause-knows g c =
    all_know _ _ _ _
    (subst (λ clients. Gathers (map client_view clients) c.args.locks.items c.args.room.items
    c.gather_all.new.wholes.items) c.as_mut_slice.ensures.value c.gather_all.ensures.gathers) c.requires.empty
