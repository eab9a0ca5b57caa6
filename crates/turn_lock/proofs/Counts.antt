-- How often a number stands in a list.
use Rattle.std.proofs.Common.{◌≡◌, ◌≢◌, ℕ, zero, suc, ◌+◌, ◌-◌, ◌<◌, ◌≤◌, eqb, Bool, List, [], ◌∷◌, ◌++◌, map, ap, sym, ◌∙◌, refl, arith, eq-eqb, ne_eqb, append-nil, if◌then◌else◌}
use mathlib.Core.Logic.{dite}
use native.Mathlib.Decide.{ℕ_discrete, dec_le}
use Rattle.std.specs.List.{AllByRecursion}
use Rattle.std.specs.List.{range_with_len}
use Rattle.turn_lock.specs.Lists.{count_of}
use Rattle.std.proofs.lemmas.List.Sums.{sum_by-append, sum_by-cons}

-- what one element adds to the count of a number
abbrev hit : ℕ → ℕ → ℕ
hit x number = if eqb x number then 1 else 0

abbrev one_if : Bool → ℕ
one_if passes = if passes then 1 else 0

hit-same : (x number : ℕ) → x ≡ number → hit x number ≡ 1
hit-same x number same = ap one_if (eq-eqb x number same)

hit-other : (x number : ℕ) → x ≢ number → hit x number ≡ 0
hit-other x number other = ap one_if (ne_eqb x number other)

pub count_of-append : (number : ℕ) (xs ys : List ℕ)
    → count_of number (xs ++ ys) ≡ count_of number xs + count_of number ys
count_of-append number xs ys = sum_by-append (λ x. if eqb x number then 1 else 0) xs ys

-- what the first element adds, and what the others do
count_of-cons : (number x : ℕ) (xs : List ℕ) → count_of number (x ∷ xs) ≡ hit x number + count_of number xs
count_of-cons number x xs = sum_by-cons (λ (other : ℕ). if eqb other number then 1 else 0) x xs

-- the first element counts once
pub count_of-head : (number : ℕ) (xs : List ℕ)
    → count_of number (number ∷ xs) ≡ 1 + count_of number xs
count_of-head number xs = count_of-cons number number xs ∙ ap (λ n. n + count_of number xs) (hit-same number number refl)

-- what lacks a number lacks it at its head and in its rest
pub absent_of : (number x : ℕ) (xs : List ℕ)
    → count_of number (x ∷ xs) ≡ 0
    → (x ≢ number) × (count_of number xs ≡ 0)
absent_of number x xs absent =
    let all : hit x number + count_of number xs ≡ 0 = sym (count_of-cons number x xs) ∙ absent in
    dite (ℕ_discrete x number)
    (λ same. let one = hit-same x number same in absurd (omega arith))
    (λ other. let none = hit-other x number other in (other, omega arith))

-- a fact of elements whose numbers are none but these, where only one number upsets it
pub kept_without : {A : Type 0} (number_of : A → ℕ) (P Q : A → Type 0) (number : ℕ) (xs : List A)
    → ((x : A) → number_of x ≢ number → P x → Q x)
    → count_of number (map number_of xs) ≡ 0
    → AllByRecursion P xs
    → AllByRecursion Q xs
kept_without number_of P Q number [] keeps absent all = tt
kept_without number_of P Q number (x ∷ xs) keeps absent all =
    let without = absent_of number (number_of x) (map number_of xs) absent in
    (keeps x without.0 all.0, kept_without number_of P Q number xs keeps without.1 all.1)

-- the same of the numbers themselves
pub numbers_kept_without : (P Q : ℕ → Type 0) (number : ℕ) (xs : List ℕ)
    → ((x : ℕ) → x ≢ number → P x → Q x)
    → count_of number xs ≡ 0
    → AllByRecursion P xs
    → AllByRecursion Q xs
numbers_kept_without P Q number [] keeps absent all = tt
numbers_kept_without P Q number (x ∷ xs) keeps absent all =
    let without = absent_of number x xs absent in
    (keeps x without.0 all.0, numbers_kept_without P Q number xs keeps without.1 all.1)

pub all-append : {A : Type 0} (P : A → Type 0) (xs ys : List A)
    → AllByRecursion P xs
    → AllByRecursion P ys
    → AllByRecursion P (xs ++ ys)
all-append P [] ys left right = right
all-append P (x ∷ xs) ys left right = (left.0, all-append P xs ys left.1 right)

-- the numbers from one to another: each of them once, and no other
pub record CountsRange (first more number : ℕ) : Type 0 where
  pub inside : first ≤ number
      → number < first + more
      → count_of number (range_with_len first more) ≡ 1
  pub above : first + more ≤ number → count_of number (range_with_len first more) ≡ 0
  pub below : number < first → count_of number (range_with_len first more) ≡ 0

module _ (first more number : ℕ) (rest : CountsRange (first + 1) more number) where
  abbrev parts : ℕ
  parts = hit first number + count_of number (range_with_len (first + 1) more)

  in_parts : count_of number (range_with_len first (suc more)) ≡ parts
  in_parts = count_of-cons number first (range_with_len (first + 1) more)

  range_at_first : first ≡ number → CountsRange first (suc more) number
  range_at_first same =
      let one = hit-same first number same in
      let none = rest.below (omega arith) in
      let all : parts ≡ 1 = omega arith in record {
        inside = λ _ _. in_parts ∙ all;
        above = λ high. absurd (omega arith);
        below = λ low. absurd (omega arith);
      }

  range_elsewhere : first ≢ number → CountsRange first (suc more) number
  range_elsewhere other = let none = hit-other first number other in record {
    inside = λ low high.
        let one = rest.inside (omega arith) (omega arith) in
        let all : parts ≡ 1 = omega arith in in_parts ∙ all;
    above = λ high.
        let no_more = rest.above (omega arith) in
        let all : parts ≡ 0 = omega arith in in_parts ∙ all;
    below = λ low.
        let no_more = rest.below (omega arith) in
        let all : parts ≡ 0 = omega arith in in_parts ∙ all;
  }

pub count_of-range_with_len : (first more number : ℕ) → CountsRange first more number
count_of-range_with_len first zero number =
    record { inside = λ low high. absurd (omega arith); above = λ _. refl; below = λ _. refl }
count_of-range_with_len first (suc more) number =
    let rest = count_of-range_with_len (first + 1) more number in
    dite (ℕ_discrete first number)
    (range_at_first first more number rest) (range_elsewhere first more number rest)

-- the numbers up to an end begin with the first, where there are any
pub range_with_len-cons : (first end : ℕ) → first < end
    → range_with_len first (end - first) ≡ first ∷ range_with_len (first + 1) (end - (first + 1))
range_with_len-cons first end low =
    ap (range_with_len first) (let more : end - first ≡ suc (end - (first + 1)) = omega arith in more)

pub range_with_len-none : (first end : ℕ) → end ≤ first → range_with_len first (end - first) ≡ []
range_with_len-none first end high =
    ap (range_with_len first) (let none : end - first ≡ 0 = omega arith in none)

-- the numbers up to one end from two places, where no number stands in both
pub range_with_len-append : (first other end : ℕ)
    → ((number : ℕ) → count_of number
    (range_with_len first (end - first) ++ range_with_len other (end - other)) ≤ 1)
    → first < end
    → range_with_len first (end - first) ++ range_with_len other (end - other)
    ≡ range_with_len first (end - first)
range_with_len-append first other end once low = dite (dec_le end other) none_there both_have_the_last
  where
    ours : List ℕ
    ours = range_with_len first (end - first)

    theirs : List ℕ
    theirs = range_with_len other (end - other)

    none_there : end ≤ other → ours ++ theirs ≡ ours
    none_there high = ap (λ more. ours ++ more) (range_with_len-none other end high) ∙ append-nil ours

    both_have_the_last : ¬ (end ≤ other) → ours ++ theirs ≡ ours
    both_have_the_last short =
        let parts = count_of-append (end - 1) ours theirs in
        let most = once (end - 1) in
        let here = (count_of-range_with_len first (end - first) (end - 1)).inside
        (omega arith) (omega arith) in
        let there = (count_of-range_with_len other (end - other) (end - 1)).inside
        (omega arith) (omega arith) in
        absurd (omega arith)
