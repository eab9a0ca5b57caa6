-- All seats are the client's, and the call keeps its number.
use Rattle.std.proofs.Common.{rules, ◌≡◌, ◌++◌, List, map, length, take, drop, sym, ap, ◌∙◌, subst}
use Rattle.std.proofs.lemmas.List.{length-map, take_at}
use Rattle.std.specs.List.{AllByRecursion}
use Rattle.account_machine.specs.declared.entry.Entry.{Entry}
use Rattle.client_output.specs.Grown.{Calls}
use Rattle.client_output.specs.Seats.{BareSeat}
use Rattle.request_turns.specs.Named.{seats_seen}
use Rattle.client_line_tests.specs.declared.seat.LedgerSeat.{LedgerSeat}
use Rattle.client_line_tests.specs.Ledgers.{bare_at, caller_in, own_at}
use Rattle.client_line_tests.proofs.Calling.{all_callers, calls_as}
use Rattle.client_line_tests.proofs.home.LedgerHomeHome.call.Goals as goal

abbrev bare_of : LedgerSeat → BareSeat
bare_of s = bare_at s.lock.now.id s.seat

abbrev own_of : LedgerSeat → List Entry
own_of s = own_at s.seat

pub returns-clause-calls : goal.returns-clause-calls
returns-clause-calls g c =
    let home = c.args.self.now in
    let old : List LedgerSeat = c.args.seat.items in
    let new : List LedgerSeat = c.call_by_seats-answer.new.seats in
    let told = c.call_by_seats-answer.result in
    let caller = caller_in (map bare_of old) in
    let items : c.deref_mut.result.now ≡ old = c.deref_mut.ensures.value in
    let same : map bare_of new ≡ map bare_of old =
    c.call_by_seats-answer.ensures.bare ∙ ap (λ (seats : List LedgerSeat). map bare_of seats) items in
    let len : length old ≡ c.args.seat.len = search rules in
    let kept : take c.args.seat.len (new ++ drop (length new) old) ≡ new =
    take_at new (drop (length new) old) c.args.seat.len
    (sym (length-map new bare_of) ∙ ap (λ (bares : List BareSeat). length bares) same ∙ length-map old bare_of ∙ len) in
    subst (λ (seats : List LedgerSeat). Calls (seats_seen caller home.names.now (map own_of old))
    (seats_seen (caller_in (map bare_of seats)) home.names.now (map own_of seats)) c.args.request.now c.args.moment told)
    (sym kept)
    (calls_as bare_of own_of home.names.now old new c.args.request.now c.args.moment told same
    (subst (λ (seats : List LedgerSeat). Calls (seats_seen caller home.names.now (map own_of seats))
    (seats_seen caller home.names.now (map own_of new)) c.args.request.now c.args.moment told) items
    (c.call_by_seats-answer.ensures.calls caller
    (subst (AllByRecursion (λ (s : LedgerSeat). (bare_of s).caller ≡ caller)) (sym items)
    (all_callers bare_of (map (λ lock. lock.id) home.locks.now) caller old c.requires.of)))))
