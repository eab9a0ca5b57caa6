-- What a seat knows of its numbers, and what a chain then is.
use Rattle.std.proofs.Common.{◌≡◌, ◌≢◌, ℕ, ◌+◌, ◌<◌, ◌≤◌, eqb, Bool, List, [], ◌∷◌, ◌++◌, map, length, All, refl, sym, ap, ◌∙◌, subst, arith, eq-eqb, ne_eqb, if◌then◌else◌}
use mathlib.Core.Logic.{dite}
use native.Mathlib.Decide.{ℕ_discrete, dec_lt}
use Rattle.std.specs.List.{AllByRecursion}
use Rattle.std.proofs.lemmas.List.Elements.{recursion_from_All}
use Rattle.std.proofs.lemmas.List.Sums.{sum_by-cons}
use Rattle.turn_lock.specs.Lists.{count_of, entries_from, entries_of}
use Rattle.turn_lock.specs.Seats.{SeatView, HasEachNumber, Recalls, numbers_of}

module _ {E : Type 0} (caller_of : E → ℕ) where
  -- no entry is of a number that is no caller's
  none_above : (place bound number : ℕ) (entries : List E)
      → AllByRecursion (λ e. caller_of e < bound) entries
      → bound ≤ number
      → entries_from caller_of place number entries ≡ []
  none_above place bound number [] below high = refl
  none_above place bound number (e ∷ entries) below high =
      let here = below.0 in
      let other : caller_of e ≢ number = λ same. omega (arith, here, high, same) in
      ap (λ (mine : Bool). (if mine then (place, e) ∷ [] else []) ++ entries_from caller_of (place + 1) number entries)
      (ne_eqb (caller_of e) number other)
      ∙ none_above (place + 1) bound number entries below.1 high

  -- an entry is one of its own caller's
  own_entry : (e : E) (entries : List E) → entries_of caller_of (caller_of e) (e ∷ entries) ≡ [] → ⊥
  own_entry e entries none =
      let more = entries_from caller_of (0 + 1) (caller_of e) entries in
      let mine : entries_of caller_of (caller_of e) (e ∷ entries) ≡ (0, e) ∷ more =
      ap (λ (own : Bool). (if own then (0, e) ∷ [] else []) ++ more) (eq-eqb (caller_of e) (caller_of e) refl) in
      let long = ap length (sym none ∙ mine) in
      omega (arith, long)

  module _ (entries : List E) where
    -- what is recalled of these numbers
    abbrev AreRecalled : List (ℕ × List (ℕ × E)) → Type 0
    AreRecalled known = AllByRecursion (λ known. entries_of caller_of known.0 entries ≡ known.1) known

    abbrev HaveNone : List ℕ → Type 0
    HaveNone spare = AllByRecursion (λ number. entries_of caller_of number entries ≡ []) spare

    module _ (P : ℕ → List (ℕ × E) → Type 0) (none : (number : ℕ) → P number []) (number : ℕ) where
      -- what counts a number counts it at the head or in the rest
      counted_later : (x : ℕ) (xs : List ℕ) → x ≢ number → 0 < count_of number (x ∷ xs) → 0 < count_of number xs
      counted_later x xs other some =
          let rest : count_of number (x ∷ xs) ≡ 0 + count_of number xs =
          sum_by-cons (λ (y : ℕ). if eqb y number then 1 else 0) x xs
          ∙ ap (λ (mine : Bool). (if mine then 1 else 0) + count_of number xs) (ne_eqb x number other) in
          omega (arith, rest, some)

      -- a number that was never used has no entry
      spare_number : (spare : List ℕ) → HaveNone spare → 0 < count_of number spare
          → P number (entries_of caller_of number entries)
      spare_number [] unused some = absurd (omega (arith, some))
      spare_number (x ∷ spare) unused some =
          dite (ℕ_discrete x number)
          (λ same. subst (λ (n : ℕ). P n (entries_of caller_of n entries)) same
          (subst (P x) (sym unused.0) (none x)))
          (λ other. spare_number spare unused.1 (counted_later x spare other some))

      -- and a number that is known has the entries that are known of it
      known_or_spare : (known : List (ℕ × List (ℕ × E))) (spare : List ℕ)
          → AreRecalled known
          → HaveNone spare
          → AllByRecursion (λ known. P known.0 known.1) known
          → 0 < count_of number (map (λ known. known.0) known ++ spare)
          → P number (entries_of caller_of number entries)
      known_or_spare [] spare recalled unused holds some = spare_number spare unused some
      known_or_spare (k ∷ known) spare recalled unused holds some =
          dite (ℕ_discrete k.0 number)
          (λ same. subst (λ (n : ℕ). P n (entries_of caller_of n entries)) same
          (subst (P k.0) (sym recalled.0) holds.0))
          (λ other. known_or_spare known spare recalled.1 unused holds.1
          (counted_later k.0 (map (λ known. known.0) known ++ spare) other some))

  -- What holds of all that a seat knows, and of no entries, holds of each of its numbers and that number's entries.
  pub number_recalled : (P : ℕ → List (ℕ × E) → Type 0) (entries : List E) (seat : SeatView E)
      → ((number : ℕ) → P number [])
      → AllByRecursion (λ known. P known.0 known.1) ((seat.caller, seat.own) ∷ seat.joined)
      → Recalls caller_of entries seat
      → (number : ℕ) → 0 < count_of number (numbers_of seat)
      → P number (entries_of caller_of number entries)
  number_recalled P entries seat none holds recalls number some =
      known_or_spare entries P none number ((seat.caller, seat.own) ∷ seat.joined) seat.spare
      (recalls.own, recursion_from_All _ seat.joined recalls.joined)
      (recursion_from_All _ seat.spare recalls.spare) holds some

  -- So it holds of every number, where the seat has all of its lock's and no entry is of another.
  pub all_recalled : (P : ℕ → List (ℕ × E) → Type 0) (entries : List E) (seat : SeatView E)
      → ((number : ℕ) → P number [])
      → AllByRecursion (λ known. P known.0 known.1) ((seat.caller, seat.own) ∷ seat.joined)
      → Recalls caller_of entries seat
      → HasEachNumber seat
      → All (λ e. caller_of e < seat.lock.callers) entries
      → (number : ℕ) → P number (entries_of caller_of number entries)
  all_recalled P entries seat none holds recalls each callers number =
      dite (dec_lt number seat.lock.callers)
      (λ below. number_recalled P entries seat none holds recalls number (each number below))
      (λ high. subst (P number)
      (sym (none_above 0 seat.lock.callers number entries (recursion_from_All _ entries callers)
      (omega (arith, high)))) (none number))

  -- a seat that knows of no entry, and has all numbers, is that of no entries
  pub nothing_recalled : (entries : List E) (seat : SeatView E)
      → AllByRecursion (λ known. known.1 ≡ []) ((seat.caller, seat.own) ∷ seat.joined)
      → Recalls caller_of entries seat
      → HasEachNumber seat
      → All (λ e. caller_of e < seat.lock.callers) entries
      → entries ≡ []
  nothing_recalled [] seat unknown recalls each callers = refl
  nothing_recalled (e ∷ entries) seat unknown recalls each callers =
      absurd (own_entry e entries
      (all_recalled (λ number own. own ≡ []) (e ∷ entries) seat (λ number. refl) unknown recalls each callers
      (caller_of e)))
