-- There is a seat of each lock, and the account is one of the home's, or none.
use Rattle.std.proofs.Common.{rules, ◌≡◌, ◌++◌, List, map, length, take, drop, sym, ap, ◌∙◌, subst}
use Rattle.std.proofs.lemmas.List.{length-map, take_at}
use Rattle.account_machine.specs.declared.answer.Answer.{Answer}
use Rattle.client_lines.specs.Seats.{AreSeatsOf}
use Rattle.client_output.specs.Grown.{Calls}
use Rattle.request_turns.specs.Named.{seats_seen}
use Rattle.request_turns.proofs.Placing.{calls_known, calls_unknown}
use Rattle.home_seats.specs.Seats.{lock_at, own_at}
use Rattle.user_home.specs.Open.{bare_slot}
use Rattle.user_home.proofs.ClientSlots.{Slot, of_locks}
use Rattle.user_home.proofs.calling.OpenHomeHome.call.Goals as goal
use Rattle.user_home.proofs.calling.OpenHomeHome.call.Goals.{in-Some, in-None}

pub take_turns_among-requires-clause-of : goal.take_turns_among-requires-clause-of
take_turns_among-requires-clause-of g c =
    ap (λ (slots : List Slot). map lock_at slots) c.as_mut_slice.ensures.value
    ∙ of_locks c.args.self.now.locks c.args.seat.number c.args.seat.seats.items c.requires.of

pub returns-clause-calls : goal.returns-clause-calls
returns-clause-calls g c =
    let home = c.args.self.now in
    let number = c.args.seat.number in
    let request = c.args.request.now in
    let moment = c.args.moment in
    let old : List Slot = c.args.seat.seats.items in
    let lent : List Slot = c.as_mut_slice.result.now in
    let new : List Slot = c.take_turns_among.new.slots in
    let items : lent ≡ old = c.as_mut_slice.ensures.value in
    let same : map bare_slot new ≡ map bare_slot old =
    c.take_turns_among.ensures.bare ∙ ap (λ (slots : List Slot). map bare_slot slots) items in
    let len : length old ≡ c.args.seat.seats.len = search rules in
    let kept : take c.args.seat.seats.len (new ++ drop (length new) old) ≡ new =
    take_at new (drop (length new) old) c.args.seat.seats.len
    (sym (length-map new bare_slot) ∙ ap (λ xs. length xs) same ∙ length-map old bare_slot ∙ len) in
    let many : length lent ≡ length home.names = c.take_turns_among.ensures.many in
    let are : AreSeatsOf home.locks number (map bare_slot lent) =
    subst (λ (slots : List Slot). AreSeatsOf home.locks number (map bare_slot slots)) (sym items) c.requires.of in
    let calls : Calls (seats_seen number home.names (map own_at lent)) (seats_seen number home.names (map own_at new))
    request moment c.match-take_turns_among.answer =
    elim c.match-take_turns_among.branch [
      | in-Some w ↦ subst (λ (answer : Answer). Calls (seats_seen number home.names (map own_at lent))
          (seats_seen number home.names (map own_at new)) request moment answer) (sym w.answer-is)
          (calls_known own_at number moment request w.in-Some.answer home.names lent new many w.in-Some.ensures.known
          (w.in-Some.ensures.makes number are))
      | in-None w ↦ subst (λ (answer : Answer). Calls (seats_seen number home.names (map own_at lent))
          (seats_seen number home.names (map own_at new)) request moment answer) (sym w.answer-is)
          (calls_unknown own_at number moment request home.names lent new many w.in-None.ensures.unknown
          w.in-None.ensures.none)
    ] in
    subst (λ (slots : List Slot). Calls (seats_seen number home.names (map own_at old))
    (seats_seen number home.names (map own_at slots)) request moment c.match-take_turns_among.answer) (sym kept)
    (subst (λ (slots : List Slot). Calls (seats_seen number home.names (map own_at slots))
    (seats_seen number home.names (map own_at new)) request moment c.match-take_turns_among.answer) items calls)
