-- Sums over a list, of which one element changes.
use Rattle.std.proofs.Common.{◌≡◌, ◌≢◌, ℕ, zero, suc, ◌+◌, ◌≤◌, List, [], ◌∷◌, ◌++◌, set, sym, refl, ap, arith}
use mathlib.Core.Option.{some, some-injective, some-ne-none}
use lib.ListN.{get_elem?}
use Rattle.std.proofs.lemmas.List.Sums.{sum_by-cons}
use Rattle.std.specs.List.{sum_by}

module _ {A : Type 0} (f : A → ℕ) where
  -- the sum, where v gave way to w
  pub sum_by-set_at : (xs : List A) (i : ℕ) (v w : A)
      → get_elem? xs i ≡ some v
      → sum_by f (set xs i w) + f v ≡ sum_by f xs + f w
  sum_by-set_at [] i v w at = absurd (some-ne-none v (sym at))
  sum_by-set_at (x ∷ xs) zero v w at =
      let same : f x ≡ f v = ap f (some-injective x v at) in
      let old = sum_by-cons f x xs in
      let new = sum_by-cons f w xs in omega arith
  sum_by-set_at (x ∷ xs) (suc i) v w at =
      let rest = sum_by-set_at xs i v w at in
      let old = sum_by-cons f x xs in
      let new = sum_by-cons f x (set xs i w) in omega arith

  -- the sum stays, where w counts for as much as v
  pub sum_by-set_same : (xs : List A) (i : ℕ) (v w : A)
      → get_elem? xs i ≡ some v
      → f w ≡ f v
      → sum_by f (set xs i w) ≡ sum_by f xs
  sum_by-set_same xs i v w at same = let changed = sum_by-set_at xs i v w at in omega arith

  -- an element counts for no more than the sum
  pub part-le-sum_by : (xs : List A) (i : ℕ) (v : A)
      → get_elem? xs i ≡ some v
      → f v ≤ sum_by f xs
  part-le-sum_by [] i v at = absurd (some-ne-none v (sym at))
  part-le-sum_by (x ∷ xs) zero v at =
      let same : f x ≡ f v = ap f (some-injective x v at) in
      let all = sum_by-cons f x xs in omega arith
  part-le-sum_by (x ∷ xs) (suc i) v at =
      let rest = part-le-sum_by xs i v at in
      let all = sum_by-cons f x xs in omega arith

  -- nor do two of them together
  pub parts-le-sum_by : (xs : List A) (i j : ℕ) (v w : A)
      → i ≢ j
      → get_elem? xs i ≡ some v
      → get_elem? xs j ≡ some w
      → f v + f w ≤ sum_by f xs
  parts-le-sum_by [] i j v w apart at there = absurd (some-ne-none v (sym at))
  parts-le-sum_by (x ∷ xs) zero zero v w apart at there = absurd (apart refl)
  parts-le-sum_by (x ∷ xs) zero (suc j) v w apart at there =
      let same : f x ≡ f v = ap f (some-injective x v at) in
      let rest = part-le-sum_by xs j w there in
      let all = sum_by-cons f x xs in omega arith
  parts-le-sum_by (x ∷ xs) (suc i) zero v w apart at there =
      let same : f x ≡ f w = ap f (some-injective x w there) in
      let rest = part-le-sum_by xs i v at in
      let all = sum_by-cons f x xs in omega arith
  parts-le-sum_by (x ∷ xs) (suc i) (suc j) v w apart at there =
      let rest = parts-le-sum_by xs i j v w (λ same. apart (ap suc same)) at there in
      let all = sum_by-cons f x xs in omega arith

-- the sums, where f is at most g at each element
pub sum_by-le_each : {A : Type 0} (f g : A → ℕ) (xs : List A)
    → ((i : ℕ) (v : A) → get_elem? xs i ≡ some v → f v ≤ g v)
    → sum_by f xs ≤ sum_by g xs
sum_by-le_each f g [] below = omega arith
sum_by-le_each f g (x ∷ xs) below =
    let first = below 0 x refl in
    let rest = sum_by-le_each f g xs (λ i v at. below (suc i) v at) in
    let left = sum_by-cons f x xs in
    let right = sum_by-cons g x xs in omega arith
