-- A client's seats are one of each lock, all with its number.
use Rattle.std.proofs.Common.{◌≡◌, inl, ℕ, suc, List, [], ◌∷◌, ◌++◌, map, length, Option, Some, None, refl, sym, ap, ◌∙◌, subst}
use Rattle.std.proofs.lemmas.List.{map-append}
use Rattle.std.specs.List.{AllByRecursion}
use Rattle.account_machine.specs.declared.answer.Answer.{Answer}
use Rattle.account_machine.specs.declared.entry.Entry.{Entry}
use Rattle.account_machine.specs.declared.request.Request.{Request}
use Rattle.account_machine.specs.declared.request.Turn.{Turn}
use Rattle.turn_lock.specs.Seats.{LockId, SeatView, seat_after}
use Rattle.client_output.specs.Seats.{BareSeat}
use Rattle.client_output.specs.Grown.{Calls}
use Rattle.client_lines.specs.Seats.{AreSeatsOf}
use Rattle.request_turns.specs.Named.{seats_seen}
use Rattle.request_turns.specs.Taken.{Takes}
use Rattle.client_line_tests.specs.Ledgers.{caller_in, own_at}

-- a seat after a turn knows its entry behind the others
pub own_after : (old held new : SeatView Entry) (before : List Entry) (entry : Entry)
    → held ≡ old → new ≡ seat_after held before entry
    → own_at (Some new) ≡ own_at (Some old) ++ entry ∷ []
own_after old held new before entry same left =
    ap (λ (s : SeatView Entry). own_at (Some s)) (left ∙ ap (λ (s : SeatView Entry). seat_after s before entry) same)
    ∙ map-append (λ (known : ℕ × Entry). known.1) old.own ((length before, entry) ∷ [])

-- a turn is the entry of the caller that it was made with
pub takes_entry : (caller given : ℕ) (turn : Turn) (old held new : SeatView Entry) (before : List Entry) (entry : Entry)
    (told : Answer)
    → held ≡ old
    → new ≡ seat_after held before entry
    → entry.caller ≡ caller
    → entry.given ≡ given
    → entry.turn ≡ turn
    → told ≡ entry.answer
    → Takes caller given turn (own_at (Some old)) (own_at (Some new)) told
takes_entry caller given turn old held new before entry told same left by at of is = record {
  entry = entry;
  is = record { caller_is = by; given_is = at; turn_is = of };
  told_is = inl is;
  own = own_after old held new before entry same left;
}

-- the number in a place, where there is one
abbrev number_in : Option (LockId × ℕ) → ℕ
number_in None = 0
number_in (Some place) = place.1

abbrev first_number : List (Option (LockId × ℕ)) → ℕ
first_number [] = 0
first_number (place ∷ places) = number_in place

abbrev rest_of : List (Option (LockId × ℕ)) → List (Option (LockId × ℕ))
rest_of [] = []
rest_of (place ∷ places) = places

abbrev HasSome : List (Option (LockId × ℕ)) → Type 0
HasSome [] = ⊥
HasSome (place ∷ places) = Unit {0}

module _ {S : Type 0} (bare : S → BareSeat) where
  -- there are as many seats as locks
  pub as_many : (locks : List LockId) (caller : ℕ) (seats : List S)
      → AreSeatsOf locks caller (map (λ bare. Some bare) (map bare seats)) → length seats ≡ length locks
  as_many locks caller [] are = by_locks locks are
    where
      by_locks : (locks : List LockId) → AreSeatsOf locks caller [] → 0 ≡ length locks
      by_locks [] are = refl
      by_locks (lock ∷ locks) are = absurd (subst HasSome (sym are) tt)
  as_many [] caller (seat ∷ seats) are = absurd (subst HasSome are tt)
  as_many (lock ∷ locks) caller (seat ∷ seats) are = ap suc (as_many locks caller seats (ap rest_of are))

  -- each has the client's number
  pub all_callers : (locks : List LockId) (caller : ℕ) (seats : List S)
      → AreSeatsOf locks caller (map (λ bare. Some bare) (map bare seats))
      → AllByRecursion (λ seat. (bare seat).caller ≡ caller) seats
  all_callers locks caller [] are = tt
  all_callers [] caller (seat ∷ seats) are = absurd (subst HasSome are tt)
  all_callers (lock ∷ locks) caller (seat ∷ seats) are =
      (ap first_number are, all_callers locks caller seats (ap rest_of are))

  -- a call leaves the client's number
  pub calls_as : (own : S → List Entry) (names : List (List ℕ)) (old new : List S) (request : Request) (moment : ℕ)
      (told : Answer)
      → map bare new ≡ map bare old
      → Calls (seats_seen (caller_in (map bare old)) names (map own old))
      (seats_seen (caller_in (map bare old)) names (map own new)) request moment told
      → Calls (seats_seen (caller_in (map bare old)) names (map own old))
      (seats_seen (caller_in (map bare new)) names (map own new)) request moment told
  calls_as own names old new request moment told same calls =
      subst (λ (bares : List BareSeat). Calls (seats_seen (caller_in (map bare old)) names (map own old))
      (seats_seen (caller_in bares) names (map own new)) request moment told) (sym same) calls
