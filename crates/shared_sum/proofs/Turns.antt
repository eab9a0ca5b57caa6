-- Turns after one another, and what a joined seat knows of them.
use Rattle.std.proofs.Common.{◌≡◌, ℕ, zero, suc, ◌+◌, ◌%◌, ◌^◌, ◌<◌, eqb, ne_eqb, Bool, List, [], ◌∷◌, ◌++◌, length, map, Option, None, Some, sym, refl, ap, ◌∙◌, subst, arith, append_assoc, append-nil, length-append, if◌then◌else◌}
use Rattle.std.specs.Prelude.{All, IsSomeAnd, slice_index_or}
use Rattle.std.specs.List.{AllByRecursion, range_with_len}
use Rattle.std.proofs.lemmas.List.Sums.{sum_by-cons}
use Rattle.std.proofs.lemmas.List.{map-append, length-map}
use Rattle.std.proofs.lemmas.List.Elements.{All-pop, recursion_from_All}
use mathlib.Core.Logic.{dite}
use native.Mathlib.Decide.{ℕ_discrete}
use Rattle.turn_lock.specs.Lists.{count_of, entries_of}
use Rattle.turn_lock.specs.Seats.{SeatView, joined_seat, numbers_of, Recalls}
use Rattle.turn_lock.proofs.Counts.{all-append}
use Rattle.shared_sum.specs.Callers.{amounts_of, places_of, MakesTurns, EachAfterTurns, IsBlankSeat, IsNewCaller, HasAllTurns, AreTurns, KnowsTurns, HasKnownTurns}
use Rattle.shared_sum.specs.Summed.{caller_of}
use Rattle.shared_sum.specs.declared.callers.Caller.{Caller}
use Rattle.shared_sum.specs.declared.sum.Added.{Added}

abbrev Entries : Type 0
Entries = List (ℕ × Added)

range_with_len-append : (first n m : ℕ)
    → range_with_len first (n + m) ≡ range_with_len first n ++ range_with_len (first + n) m
range_with_len-append first zero m =
    let more : 0 + m ≡ m = omega arith in
    let from : first ≡ first + 0 = omega arith in λ i. range_with_len (from i) (more i)
range_with_len-append first (suc n) m =
    let count : suc n + m ≡ suc (n + m) = omega arith in
    let from : first + 1 + n ≡ first + suc n = omega arith in
    ap (range_with_len first) count
    ∙ (ap (λ rest. first ∷ rest) (range_with_len-append (first + 1) n m)
    ∙ ap (λ (at : ℕ). first ∷ (range_with_len (first + 1) n ++ range_with_len at m)) from)

-- as many places are told as there are entries
told_length : (before after : List ℕ) (entries : Entries)
    → after ≡ before ++ places_of entries
    → length after ≡ length before + length entries
told_length before after entries is =
    let whole = ap (λ (some : List ℕ). length some) is in
    let parts = length-append before (places_of entries) in
    let same = length-map entries (λ (known : ℕ × Added). known.0 % 2 ^ 64) in omega arith

-- some turns, and then others
pub more_turns : (one two three : SeatView Added) (before between after : List ℕ)
    → MakesTurns one two before between
    → MakesTurns two three between after
    → MakesTurns one three before after
more_turns one two three before between after first next =
    let xs : Entries = first.entries in
    let ys : Entries = next.entries in
    let from : ℕ = length before in
    let told : length between ≡ from + length xs =
    told_length before between xs first.places in record {
      entries = xs ++ ys;
      seat = next.seat
          ∙ (λ i. record (first.seat i) { own = (first.seat i).own ++ ys })
          ∙ (λ i. record one { own = append_assoc one.own xs ys i });
      amounts = map-append _ xs ys
          ∙ (λ i. first.amounts i ++ next.amounts i)
          ∙ ap (λ (at : ℕ). range_with_len from (length xs) ++ range_with_len at (length ys)) told
          ∙ sym (range_with_len-append from (length xs) (length ys))
          ∙ ap (range_with_len from) (sym (length-append xs ys));
      places = next.places
          ∙ (ap (λ some. some ++ places_of ys) first.places
          ∙ (append_assoc before (places_of xs) (places_of ys)
          ∙ ap (λ some. before ++ some) (sym (map-append _ xs ys))));
    }

-- a blank seat that made so many turns
knows_at : (turns : ℕ) (old new : Option (SeatView Added)) (before after : List ℕ)
    → IsSomeAnd old IsBlankSeat
    → ((seat : SeatView Added) → old ≡ Some seat
    → IsSomeAnd new (λ now. MakesTurns seat now before after))
    → before ≡ []
    → length after ≡ turns
    → IsSomeAnd new (KnowsTurns turns)
knows_at turns None new before after blank made none all = absurd blank
knows_at turns (Some seat) None before after blank made none all = absurd (made seat refl)
knows_at turns (Some seat) (Some now) before after blank made none all =
    let makes = made seat refl in
    let entries : Entries = makes.entries in
    let own : now.own ≡ entries =
    ap (λ seat. seat.own) makes.seat ∙ ap (λ some. some ++ entries) blank.0 in
    let from : length before ≡ 0 = ap (λ (some : List ℕ). length some) none in
    let count : length entries ≡ turns =
    (let told = told_length before after entries makes.places in omega arith) in record {
      own = ap amounts_of own ∙ makes.amounts ∙ (λ i. range_with_len (from i) (count i));
      joined = subst (λ joined. AllByRecursion (λ known. AreTurns turns known.1) joined)
          (sym (ap (λ seat. seat.joined) makes.seat ∙ blank.1)) tt;
      spare = ap (λ seat. seat.spare) makes.seat ∙ blank.2;
    }

-- new callers that have made all their turns
pub each_knows : (turns : ℕ) (old new : List Caller)
    → All (IsNewCaller turns) old
    → EachAfterTurns old new
    → All HasAllTurns new
    → All (HasKnownTurns turns) new
each_knows turns old new fresh after all k d low =
    let count = after.count in
    let one : Caller = slice_index_or old k d in
    let two : Caller = slice_index_or new k d in
    let was = fresh k d (omega arith) in
    let is = after.each k d (omega arith) in
    knows_at turns one.seat two.seat one.places.items two.places.items was.2 is.1 was.1
    (all k d low ∙ (is.0 ∙ was.0))

-- what two seats know, they know joined
pub knows_joined : (turns : ℕ) (seat other : SeatView Added)
    → KnowsTurns turns seat
    → KnowsTurns turns other
    → KnowsTurns turns (joined_seat seat other)
knows_joined turns seat other one two = record {
  own = one.own;
  joined = all-append (λ known. AreTurns turns known.1) seat.joined
      ((other.caller, other.own) ∷ other.joined) one.joined (two.own, two.joined);
  spare = λ i. one.spare i ++ two.spare i;
}

abbrev one_if : Bool → ℕ
one_if passes = if passes then 1 else 0

-- a number that stands among those known has made its turns
in_known : (turns number : ℕ) (chain : List Added) (known : List (ℕ × Entries))
    → AllByRecursion (λ one. entries_of caller_of one.0 chain ≡ one.1) known
    → AllByRecursion (λ one. AreTurns turns one.1) known
    → 0 < count_of number (map (λ one. one.0) known)
    → AreTurns turns (entries_of caller_of number chain)
in_known turns number chain [] recalls made stands = absurd (omega arith)
in_known turns number chain (x ∷ xs) recalls made stands = dite (ℕ_discrete x.0 number)
    (λ same. subst (λ (n : ℕ). AreTurns turns (entries_of caller_of n chain)) same
    (subst (AreTurns turns) (sym recalls.0) made.0))
    (λ other.
    let rest : ℕ = count_of number (map (λ (one : ℕ × Entries). one.0) xs) in
    let none : one_if (eqb x.0 number) ≡ 0 = ap one_if (ne_eqb x.0 number other) in
    let all = sum_by-cons (λ (one : ℕ). one_if (eqb one number)) x.0 (map (λ (one : ℕ × Entries). one.0) xs) in
    let some : 0 < one_if (eqb x.0 number) + rest = subst (λ (n : ℕ). 0 < n) all stands in
    in_known turns number chain xs recalls.1 made.1 (let more : 0 < rest = omega arith in more))

-- each number of a seat that knows all its turns has made them
pub each_number_made : (turns number : ℕ) (chain : List Added) (seat : SeatView Added)
    → Recalls caller_of chain seat
    → KnowsTurns turns seat
    → 0 < count_of number (numbers_of seat)
    → AreTurns turns (entries_of caller_of number chain)
each_number_made turns number chain seat recalls knows stands =
    let joined : List ℕ = map (λ known. known.0) seat.joined in
    let without : joined ++ seat.spare ≡ joined =
    ap (λ spare. joined ++ spare) knows.spare ∙ append-nil joined in
    in_known turns number chain ((seat.caller, seat.own) ∷ seat.joined)
    (recalls.own, recursion_from_All _ seat.joined recalls.joined) (knows.own, knows.joined)
    (subst (λ (rest : List ℕ). 0 < count_of number (seat.caller ∷ rest)) without stands)

-- what one caller with a seat, behind the others, means
module _ (all others : List Caller) (caller : Caller) (seat : SeatView Added)
    (is : all ≡ others ++ caller ∷ []) (has : caller.seat ≡ Some seat) where
  -- where all know their turns, the others do, and the seat does
  pub knows-last : (turns : ℕ)
      → All (HasKnownTurns turns) all
      → All (HasKnownTurns turns) others × KnowsTurns turns seat
  knows-last turns each =
      let parts = All-pop (HasKnownTurns turns) all others (Some caller) is each in
      (parts.0, subst (λ seat. IsSomeAnd seat (KnowsTurns turns)) has parts.1)
