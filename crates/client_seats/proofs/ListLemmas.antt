-- Lists with an element at their end.
use Rattle.std.proofs.Common.{◌≡◌, ⊎_elim, ℕ, ◌≤◌, ◌<◌, List, [], ◌∷◌, ◌++◌, map, length, refl, sym, ap, ◌∙◌, subst, arith, length-append, Option, Some, option_to_list}
use Rattle.std.specs.Prelude.{slice_index_or}
use Rattle.std.specs.List.{AllByRecursion}
use Rattle.std.proofs.Math.ListN.{get_or-append}
use Rattle.std.proofs.Math.Seq.{get_or-append_seam}
use Rattle.std.proofs.lemmas.Bool.{cases_lt}
use Rattle.std.proofs.lemmas.List.{map-append}
use Rattle.client_seats.specs.Gathering.{EachAt}

module _ {A : Type 0} where
  -- the first element, where there is one
  abbrev head_or : A → List A → A
  head_or other [] = other
  head_or other (x ∷ xs) = x

  -- the list without its first element
  abbrev rest_of : List A → List A
  rest_of [] = []
  rest_of (x ∷ xs) = xs

  -- the list without its last element
  abbrev front_of : List A → List A
  front_of [] = []
  front_of (x ∷ []) = []
  front_of (x ∷ y ∷ xs) = x ∷ front_of (y ∷ xs)

  -- the last element, where there is one
  abbrev last_or : A → List A → A
  last_or other [] = other
  last_or other (x ∷ xs) = last_or x xs

  -- what stands before the element at the end
  front_of-push : (xs : List A) (x : A) → front_of (xs ++ x ∷ []) ≡ xs
  front_of-push [] x = refl
  front_of-push (y ∷ []) x = refl
  front_of-push (y ∷ z ∷ xs) x = ap (λ (zs : List A). y ∷ zs) (front_of-push (z ∷ xs) x)

  -- the element at the end
  last_or-push : (other : A) (xs : List A) (x : A) → last_or other (xs ++ x ∷ []) ≡ x
  last_or-push other [] x = refl
  last_or-push other (y ∷ xs) x = last_or-push y xs x

  -- of equal lists with an element at their ends the fronts are equal
  pub same_front : (xs ys : List A) (x y : A) → xs ++ x ∷ [] ≡ ys ++ y ∷ [] → xs ≡ ys
  same_front xs ys x y same = sym (front_of-push xs x) ∙ ap front_of same ∙ front_of-push ys y

  -- and so are the elements at their ends
  pub same_last : (xs ys : List A) (x y : A) → xs ++ x ∷ [] ≡ ys ++ y ∷ [] → x ≡ y
  same_last xs ys x y same = sym (last_or-push x xs x) ∙ ap (last_or x) same ∙ last_or-push x ys y

  -- what holds of each element with its place, with one more behind
  pub each_at_push : (P : ℕ → A → Type 0) (xs : List A) (x : A)
      → EachAt P xs → P (length xs) x → EachAt P (xs ++ x ∷ [])
  each_at_push P xs x each last place d below =
      let long = length-append xs (x ∷ []) in
      ⊎_elim
      (λ (less : place < length xs).
      subst (P place) (sym (get_or-append xs (x ∷ []) d place less)) (each place d less))
      (λ (least : length xs ≤ place).
      let here : length xs ≡ place = omega (arith, long, below, least) in
      subst (λ (k : ℕ). P k (slice_index_or (xs ++ x ∷ []) k d)) here
      (subst (P (length xs)) (sym (get_or-append_seam xs x [] d)) last))
      (cases_lt place (length xs))

-- what holds of each element holds with one more behind, of which it holds
pub all_push : {A : Type 0} (P : A → Type 0) (xs : List A) (x : A)
    → AllByRecursion P xs → P x → AllByRecursion P (xs ++ x ∷ [])
all_push P [] x all last = (last, tt)
all_push P (y ∷ xs) x all last = (all.0, all_push P xs x all.1 last)

module _ {A B : Type 0} (f : A → B) where
  -- a list whose image has an element at its end has one
  pub map_last : (zs : List A) (xs : List B) (x : B) → map f zs ≡ xs ++ x ∷ []
      → (front : List A) × (z : A) × (zs ≡ front ++ z ∷ []) × (f z ≡ x)
  map_last [] xs x same = absurd (omega (arith, ap length same, length-append xs (x ∷ [])))
  map_last (z ∷ []) xs x same = ([], z, refl, same_last [] xs (f z) x same)
  map_last (z ∷ w ∷ zs) [] x same = absurd (omega (arith, ap length same))
  map_last (z ∷ w ∷ zs) (y ∷ xs) x same =
      let more = map_last (w ∷ zs) xs x (ap rest_of same) in
      (z ∷ more.0, more.1, ap (λ (ys : List A). z ∷ ys) more.2, more.3)

  -- a list is popped beside the list whose image it is
  pub popped_images : (all front : List A) (last : A) (images rest : List B) (popped : Option B) (image : B)
      → all ≡ front ++ last ∷ []
      → images ≡ map f all
      → images ≡ rest ++ option_to_list popped
      → popped ≡ Some image
      → (rest ≡ map f front) × (image ≡ f last)
  popped_images all front last images rest popped image is images_are rest_is some =
      let same : rest ++ image ∷ [] ≡ map f front ++ f last ∷ [] =
      ap (λ (o : Option B). rest ++ option_to_list o) (sym some) ∙ sym rest_is ∙ images_are
      ∙ ap (map f) is ∙ map-append f front (last ∷ []) in
      (same_front rest (map f front) image (f last) same, same_last rest (map f front) image (f last) same)
