-- A client's slots have a seat of each lock, all with its number.
use Rattle.std.proofs.Common.{◌≡◌, ℕ, Bool, true, false, List, [], ◌∷◌, map, length, Option, Some, None, refl, sym, ap, ◌∙◌, subst, true≢false, arith}
use Rattle.std.proofs.lemmas.List.{length-map}
use Rattle.std.specs.Prelude.{bytes_eq, ◌&&◌, not}
use Rattle.pw_types.specs.Moment.{cut_moment}
use Rattle.account_machine.specs.Asked.{account_of}
use Rattle.account_machine.specs.declared.answer.Answer.{Answer}
use Rattle.account_machine.specs.declared.request.Request.{Request}
use Rattle.client_lines.specs.Seats.{AreSeatsOf, place_of}
use Rattle.client_output.specs.Grown.{MakesTurns}
use Rattle.client_output.specs.Output.{is_among}
use Rattle.client_output.specs.Turns.{Makes}
use Rattle.platform_lock.specs.Devices.{DeviceSeen}
use Rattle.request_turns.specs.Named.{are_apart, seats_seen}
use Rattle.request_turns.specs.Taken.{Gives}
use Rattle.request_turns.proofs.Placing.{makes_here}
use Rattle.turn_lock.specs.Seats.{LockId, SeatView}
use Rattle.home_locks.specs.declared.account.Entry.{Entry}
use Rattle.turn_meaning.specs.declared.taken.TurnTaken.{TurnTaken}
use Rattle.home_seats.specs.Seats.{LockSeen, bare_at, lock_at, own_at}
use Rattle.user_home.specs.Open.{IsServable, bare_slot}

-- a client's slot
abbrev pub Slot : Type 0
Slot = Option (SeatView (Entry TurnTaken))

-- the lock and the number in a place, where there is one
abbrev lock_in : Option (LockId × ℕ) → Option LockId
lock_in None = None
lock_in (Some place) = Some place.0

abbrev number_in : Option (LockId × ℕ) → ℕ
number_in None = 0
number_in (Some place) = place.1

abbrev first_in : List (Option (LockId × ℕ)) → Option (LockId × ℕ)
first_in [] = None
first_in (place ∷ places) = place

abbrev rest_of : List (Option (LockId × ℕ)) → List (Option (LockId × ℕ))
rest_of [] = []
rest_of (place ∷ places) = places

abbrev HasSome : List (Option (LockId × ℕ)) → Type 0
HasSome [] = ⊥
HasSome (place ∷ places) = Unit {0}

-- a slot's place has the lock and the number of its seat
place-lock : (slot : Slot) → lock_at slot ≡ lock_in (place_of (bare_slot slot))
place-lock None = refl
place-lock (Some seat) = refl

place-number : (lock : LockId) (slot : Slot) → (bare_at lock slot).caller ≡ number_in (place_of (bare_slot slot))
place-number lock None = refl
place-number lock (Some seat) = refl

-- there is a seat of each lock
pub of_locks : (locks : List LockId) (caller : ℕ) (slots : List Slot)
    → AreSeatsOf locks caller (map bare_slot slots) → map lock_at slots ≡ map Some locks
of_locks [] caller [] are = refl
of_locks [] caller (slot ∷ slots) are = absurd (subst HasSome are tt)
of_locks (lock ∷ locks) caller [] are = absurd (subst HasSome (sym are) tt)
of_locks (lock ∷ locks) caller (slot ∷ slots) are =
    let here : lock_at slot ≡ Some lock =
    place-lock slot ∙ ap (λ (places : List (Option (LockId × ℕ))). lock_in (first_in places)) are in
    λ i. here i ∷ of_locks locks caller slots (ap rest_of are) i

-- so there are as many seats as locks
pub as_many : (locks : List LockId) (slots : List Slot) → map lock_at slots ≡ map Some locks
    → length slots ≡ length locks
as_many locks slots are =
    sym (length-map slots lock_at) ∙ ap (λ (all : List (Option LockId)). length all) are ∙ length-map locks Some

-- the first seat has the client's number
pub first_number : (lock : LockId) (locks : List LockId) (caller : ℕ) (slot : Slot) (slots : List Slot)
    → AreSeatsOf (lock ∷ locks) caller (map bare_slot (slot ∷ slots)) → (bare_at lock slot).caller ≡ caller
first_number lock locks caller slot slots are =
    place-number lock slot ∙ ap (λ (places : List (Option (LockId × ℕ))). number_in (first_in places)) are

-- the other seats are the client's too
pub other_seats : (lock : LockId) (locks : List LockId) (caller : ℕ) (slot : Slot) (slots : List Slot)
    → AreSeatsOf (lock ∷ locks) caller (map bare_slot (slot ∷ slots)) → AreSeatsOf locks caller (map bare_slot slots)
other_seats lock locks caller slot slots are = ap rest_of are

-- the first account is the one that is asked, and its turns are made by the first seat
pub makes_first : (moment : ℕ) (request : Request) (told : Answer) (all : List (List ℕ)) (name : List ℕ)
    (names : List (List ℕ)) (ids : List LockId) (lock : LockId) (locks : List LockId) (caller : ℕ) (old : List Slot)
    (slot after : Slot) (slots : List Slot)
    → all ≡ name ∷ names
    → ids ≡ lock ∷ locks
    → old ≡ slot ∷ slots
    → bytes_eq name (account_of request) ≡ true
    → are_apart all ≡ true
    → AreSeatsOf ids caller (map bare_slot old)
    → Gives (Makes (bare_at lock slot).caller (cut_moment moment) request) (own_at slot) (own_at after) told
    → MakesTurns (seats_seen caller all (map own_at old)) (seats_seen caller all (map own_at (after ∷ slots))) request
    moment told
makes_first moment request told all name names ids lock locks caller old slot after slots names_are locks_are olds_are
    is apart are gives =
    let first : AreSeatsOf (lock ∷ locks) caller (map bare_slot (slot ∷ slots)) =
    subst (λ (ids : List LockId). AreSeatsOf ids caller (map bare_slot (slot ∷ slots))) locks_are
    (subst (λ (olds : List Slot). AreSeatsOf ids caller (map bare_slot olds)) olds_are are) in
    makes_here own_at caller moment request told all names name old slots (after ∷ slots) slot after names_are olds_are
    refl is apart
    (subst (λ (number : ℕ). Gives (Makes number (cut_moment moment) request) (own_at slot) (own_at after) told)
    (first_number lock locks caller slot slots first) gives)

-- ---- the home without its first account

apart_after : (b m : Bool) → (not b && m) ≡ true → m ≡ true
apart_after true m is = absurd (true≢false (sym is))
apart_after false m is = is

-- it can be served too
pub servable_after : (device : DeviceSeen) (shared : LockId) (name : List ℕ) (names : List (List ℕ)) (at : LockSeen)
    (locks : List LockSeen) → IsServable device shared (name ∷ names) (at ∷ locks)
    → IsServable device shared names locks
servable_after device shared name names at locks servable = record {
  apart = apart_after (is_among name names) (are_apart names) servable.apart;
  many = omega (arith, servable.many);
  each = servable.each.1;
}
