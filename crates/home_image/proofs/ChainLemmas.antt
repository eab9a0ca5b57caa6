-- The places of an account's steps among the first n of a chain, and of the others.
use Rattle.std.proofs.Common.{◌≡◌, ℕ, ◌+◌, ◌≤◌, ◌<◌, List, [], ◌∷◌, ◌++◌, take, drop, length, sym, ap, ◌∙◌, arith, append_assoc, eqb, if◌then◌else◌, Bool, true, false}
use Rattle.std.specs.List.{AllByRecursion}
use Rattle.std.proofs.lemmas.List.{length-take-le, take-append-drop}
use Rattle.home_image.proofs.ListLemmas.{all-weaker}
use Rattle.turn_lock.specs.Lists.{entries_from, entries_of}
use Rattle.home_image.specs.Chain.{place_from}

module _ {S : Type 0} (account_of : S → ℕ) where
  -- the step with its place, where it is the account's
  abbrev entry_if : ℕ → ℕ → S → List (ℕ × S)
  entry_if place account s = if eqb (account_of s) account then (place, s) ∷ [] else []

  -- an account's steps in a chain and more: those in the chain, then those in the rest
  pub entries_from-append : (place account : ℕ) (steps more : List S)
      → entries_from account_of place account (steps ++ more)
      ≡ entries_from account_of place account steps
      ++ entries_from account_of (place + length steps) account more
  entries_from-append place account [] more =
      ap (λ (at : ℕ). entries_from account_of at account more) (omega arith)
  entries_from-append place account (s ∷ steps) more =
      let first = entry_if place account s in
      let rest = entries_from account_of (place + 1) account steps in
      ap (λ tail. first ++ tail) (entries_from-append (place + 1) account steps more
      ∙ ap (λ (at : ℕ). rest ++ entries_from account_of at account more) (omega arith))
      ∙ sym (append_assoc first rest
      (entries_from account_of (place + length (s ∷ steps)) account more))

  -- a step more at the front keeps all places within bounds
  if-within : (mine : Bool) (place low high : ℕ) (s : S) (rest : List (ℕ × S))
      → low ≤ place
      → place < high
      → AllByRecursion (λ known. (low ≤ known.0) × (known.0 < high)) rest
      → AllByRecursion (λ known. (low ≤ known.0) × (known.0 < high))
      ((if mine then (place, s) ∷ [] else []) ++ rest)
  if-within true place low high s rest p q h = ((p, q), h)
  if-within false place low high s rest p q h = h

  -- each place is from the first up to the first and the length
  pub places-within : (place account low high : ℕ) (steps : List S)
      → low ≤ place
      → place + length steps ≤ high
      → AllByRecursion (λ known. (low ≤ known.0) × (known.0 < high))
      (entries_from account_of place account steps)
  places-within place account low high [] p q = tt
  places-within place account low high (s ∷ steps) p q =
      if-within (eqb (account_of s) account) place low high s
      (entries_from account_of (place + 1) account steps) p (omega arith)
      (places-within (place + 1) account low high steps (omega arith) (omega arith))

  -- each place in a chain is below its length
  pub places-below : (account : ℕ) (chain : List S)
      → AllByRecursion (λ known. known.0 < length chain) (entries_of account_of account chain)
  places-below account chain =
      all-weaker (λ known. (0 ≤ known.0) × (known.0 < length chain)) (λ known. known.0 < length chain)
      (λ known h. h.1) (entries_of account_of account chain)
      (places-within 0 account 0 (length chain) chain (omega arith) (omega arith))

  -- The account's steps in the chain are those among the first n, whose places are below n, and others,
  -- whose places aren't.
  pub record Cut (n account : ℕ) (chain : List S) : Type 0 where
    pub rest : List (ℕ × S)
    pub whole : entries_of account_of account chain
        ≡ entries_of account_of account (take n chain) ++ rest
    pub below : AllByRecursion (λ known. known.0 < n) (entries_of account_of account (take n chain))
    pub above : AllByRecursion (λ known. n ≤ known.0) rest

  -- each number of first steps cuts the account's steps so
  pub chain-cut : (n account : ℕ) (chain : List S) → n ≤ length chain → Cut n account chain
  chain-cut n account chain fits =
      let size : length (take n chain) ≡ n = length-take-le n chain fits in
      let rest = entries_from account_of n account (drop n chain) in
      let parts = entries_from-append 0 account (take n chain) (drop n chain) in
      record {
        rest = rest;
        whole = ap (λ all. entries_of account_of account all) (sym (take-append-drop n chain))
            ∙ parts
            ∙ ap (λ (at : ℕ). entries_of account_of account (take n chain)
            ++ entries_from account_of at account (drop n chain)) (omega (arith, size));
        below = all-weaker (λ known. (0 ≤ known.0) × (known.0 < n)) (λ known. known.0 < n)
            (λ known h. h.1) (entries_of account_of account (take n chain))
            (places-within 0 account 0 n (take n chain) (omega arith) (omega (arith, size)));
        above = all-weaker (λ known. (n ≤ known.0) × (known.0 < n + length (drop n chain)))
            (λ known. n ≤ known.0) (λ known h. h.0) rest
            (places-within n account n (n + length (drop n chain)) (drop n chain) (omega arith)
            (omega arith));
      }

module _ {S : Type 0} where
  -- a place after steps from a place above 0 is above 0
  pub place-positive : (place : ℕ) (own : List (ℕ × S)) → 1 ≤ place → 1 ≤ place_from place own
  place-positive place [] h = h
  place-positive place (known ∷ own) h = place-positive (known.0 + 1) own (omega arith)

  -- steps below n have a place after them up to n
  pub place-below : (n place : ℕ) (own : List (ℕ × S))
      → place ≤ n → AllByRecursion (λ known. known.0 < n) own → place_from place own ≤ n
  place-below n place [] h below = h
  place-below n place (known ∷ own) h below =
      let here = below.0 in place-below n (known.0 + 1) own (omega arith) below.1

  -- steps from n on have a place after them above n
  pub place-above : (n place : ℕ) (own : List (ℕ × S))
      → n < place → AllByRecursion (λ known. n ≤ known.0) own → n < place_from place own
  place-above n place [] h above = h
  place-above n place (known ∷ own) h above =
      let here = above.0 in place-above n (known.0 + 1) own (omega arith) above.1

  -- the place of a turn whose last steps aren't below n
  pub place-past : (n place : ℕ) (before : List (ℕ × S)) (known : ℕ × S) (own : List (ℕ × S))
      → AllByRecursion (λ known. n ≤ known.0) (known ∷ own)
      → n < place_from place (before ++ known ∷ own)
  place-past n place [] known own above =
      let here = above.0 in place-above n (known.0 + 1) own (omega arith) above.1
  place-past n place (first ∷ before) known own above =
      place-past n (first.0 + 1) before known own above
