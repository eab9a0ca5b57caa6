-- Two ways to cut one list, and what holds of each element of a list in two parts.
use Rattle.std.proofs.Common.{◌≡◌, ◌⊎◌, inl, inr, ⊎_elim, List, [], ◌∷◌, ◌++◌, refl, sym, ap, subst}
use Rattle.std.specs.List.{AllByRecursion}

module _ {A : Type 0} where
  -- the first element, where there is one
  abbrev pub head_or : A → List A → A
  head_or a [] = a
  head_or a (x ∷ xs) = x

  -- the list without its first element
  abbrev pub rest_of : List A → List A
  rest_of [] = []
  rest_of (x ∷ xs) = xs

  -- equal heads and equal rests make equal lists
  same_cons : (x y : A) (xs ys : List A) → x ≡ y → xs ≡ ys → ◌≡◌ {A = List A} (x ∷ xs) (y ∷ ys)
  same_cons x y xs ys p q = λ i. p i ∷ q i

  -- the first cut is not behind the second
  abbrev pub CutsBefore : List A → List A → List A → List A → Type 0
  CutsBefore left right before after =
      (mid : List A) × (before ≡ left ++ mid) × (right ≡ mid ++ after)

  -- the first cut is behind the second
  abbrev pub CutsBehind : List A → List A → List A → List A → Type 0
  CutsBehind left right before after =
      (x : A) × (mid : List A) × (left ≡ before ++ x ∷ mid) × (after ≡ (x ∷ mid) ++ right)

  -- of two cuts of one list, one is not behind the other
  pub two_cuts : (left right before after : List A)
      → left ++ right ≡ before ++ after
      → CutsBefore left right before after ⊎ CutsBehind left right before after
  two_cuts [] right before after e = inl (before, refl, e)
  two_cuts (x ∷ left) right [] after e = inr (x, left, refl, sym e)
  two_cuts (x ∷ left) right (y ∷ before) after e =
      let first : x ≡ y = ap (head_or x) e in
      ⊎_elim
      (λ b. inl (b.0, same_cons y x before (left ++ b.0) (sym first) b.1, b.2))
      (λ b. inr (b.0, b.1, same_cons x y left (before ++ b.0 ∷ b.1) first b.2, b.3))
      (two_cuts left right before after (ap rest_of e))

  -- the list is empty
  abbrev IsNone : List A → Type 0
  IsNone [] = Unit {0}
  IsNone (x ∷ xs) = ⊥

  -- a list is empty that is a part of an empty list
  pub first_of_none : (before after : List A) → [] ≡ before ++ after → before ≡ []
  first_of_none [] after e = refl
  first_of_none (x ∷ before) after e = absurd (subst IsNone e tt)

  -- what holds of each element holds of each in a first part
  pub all-left : (P : A → Type 0) (xs ys : List A)
      → AllByRecursion P (xs ++ ys) → AllByRecursion P xs
  all-left P [] ys h = tt
  all-left P (x ∷ xs) ys h = (h.0, all-left P xs ys h.1)

  -- and of each in the rest
  pub all-right : (P : A → Type 0) (xs ys : List A)
      → AllByRecursion P (xs ++ ys) → AllByRecursion P ys
  all-right P [] ys h = h
  all-right P (x ∷ xs) ys h = all-right P xs ys h.1

  -- what holds of each in both parts holds of each in the whole
  pub all-both : (P : A → Type 0) (xs ys : List A)
      → AllByRecursion P xs → AllByRecursion P ys → AllByRecursion P (xs ++ ys)
  all-both P [] ys h k = k
  all-both P (x ∷ xs) ys h k = (h.0, all-both P xs ys h.1 k)

  -- a weaker fact holds of each element too
  pub all-weaker : (P Q : A → Type 0) → ((x : A) → P x → Q x) → (xs : List A)
      → AllByRecursion P xs → AllByRecursion Q xs
  all-weaker P Q w [] h = tt
  all-weaker P Q w (x ∷ xs) h = (w x h.0, all-weaker P Q w xs h.1)

  -- a list with an element at its end isn't empty
  pub some_in : (before : List A) (known : A) → [] ≡ before ++ known ∷ [] → ⊥
  some_in [] known is = subst IsNone is tt
  some_in (x ∷ before) known is = subst IsNone is tt

  -- a list with an element that is a part of a list of one is that list
  pub one_left : (x : A) (mid more : List A) (known : A)
      → known ∷ [] ≡ (x ∷ mid) ++ more
      → ◌≡◌ {A = List A} (x ∷ mid) (known ∷ [])
  one_left x mid more known is =
      let first : known ≡ x = ap (head_or known) is in
      let none : mid ≡ [] = first_of_none mid more (ap rest_of is) in
      λ i. sym first i ∷ none i
