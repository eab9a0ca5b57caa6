-- Names that are picked out of a list, one after the other.
use Rattle.std.proofs.Common.{◌≡◌, ⊎_elim, ℕ, ◌+◌, ◌<◌, ◌≤◌, take, get_or, List, [], ◌∷◌, ◌++◌}
use Rattle.std.proofs.Common.{length, refl, sym, ap, ◌∙◌, subst, Option, None, Some, Bool, true, false, true≢false}
use Rattle.std.proofs.Common.{cond, arith, Result, Ok, Err}
use Rattle.std.specs.Prelude.{Contains, bytes_eq, filter, not}
use Rattle.std.specs.List.{IsDistinct, AllByRecursion}
use Rattle.std.proofs.lemmas.Slice.Eq.{bytes_eq-Decides}
use Rattle.std.proofs.lemmas.List.{take_more, take_all}
use Rattle.std.proofs.lemmas.List.Elements.{Contains-append_left, Contains-append_right, Contains-append_cases}
use Rattle.cabinet.specs.Names.{without_name, names_read}
use Rattle.cabinet.proofs.NamedLemmas.{distinct_push, without_only, without_other}
use Rattle.cabinet.proofs.OpeningLemmas.{none_in, only_one}
use Rattle.share_api.specs.Contents.{Bytes}
use Rattle.platform_core.specs.Picks.{Picked, Adds, AreFewer}

all_front : (P : Bytes → Type 0) (xs : List Bytes) (y : Bytes) → AllByRecursion P (xs ++ y ∷ []) → AllByRecursion P xs
    × P y
all_front P [] y are = (tt, are.0)
all_front P (x ∷ xs) y are = let rest = all_front P xs y are.1 in ((are.0, rest.0), rest.1)

-- a list that has each once, without its last one
distinct_front : (xs : List Bytes) (y : Bytes) → IsDistinct bytes_eq (xs ++ y ∷ []) → IsDistinct bytes_eq xs
    × (Contains xs y → ⊥)
unfolding IsDistinct
distinct_front [] y d = (tt, λ h. none_in y h)
distinct_front (x ∷ xs) y d =
    let front = all_front (λ z. bytes_eq x z ≡ false) xs y d.0 in
    let rest = distinct_front xs y d.1 in (
      (front.0, rest.0),
      λ h. ⊎_elim (λ one. true≢false (sym ((bytes_eq-Decides x y).1 (only_one x y one)) ∙ front.1)) rest.1
          (Contains-append_cases (x ∷ []) xs y h),
    )

pub picked_none : (P : Bytes → Type 0) → Picked P [] []
picked_none P = record { every = λ q is h. h; only = λ q h. absurd (none_in q h); once = λ d. d }

at_end : (xs : List Bytes) (x q : Bytes) → x ≡ q → Contains (xs ++ x ∷ []) q
at_end xs x q same = Contains-append_right xs (x ∷ []) q (0, omega arith, same)

module _ (P : Bytes → Type 0) (xs ys : List Bytes) (x : Bytes) (p : Picked P xs ys) where
  pub picked_push : P x → Picked P (xs ++ x ∷ []) (ys ++ x ∷ [])
  picked_push is = record {
    every = λ q yes h. ⊎_elim (λ front. Contains-append_left ys (x ∷ []) q (p.every q yes front))
        (λ last. at_end ys x q (only_one x q last)) (Contains-append_cases xs (x ∷ []) q h);
    only = λ q h. ⊎_elim (λ front. let was = p.only q front in (was.0, Contains-append_left xs (x ∷ []) q was.1))
        (λ last. (subst P (only_one x q last) is, at_end xs x q (only_one x q last)))
        (Contains-append_cases ys (x ∷ []) q h);
    once = λ d. let front = distinct_front xs x d in distinct_push ys x (p.once front.0) (λ h. front.1 (p.only x h).1);
  }

  pub picked_skip : (P x → ⊥) → Picked P (xs ++ x ∷ []) ys
  picked_skip isnt = record {
    every = λ q yes h. ⊎_elim (λ front. p.every q yes front) (λ last. absurd
        (isnt (subst P (sym (only_one x q last)) yes))) (Contains-append_cases xs (x ∷ []) q h);
    only = λ q h. let was = p.only q h in (was.0, Contains-append_left xs (x ∷ []) q was.1);
    once = λ d. p.once (distinct_front xs x d).0;
  }

-- one name more of the list, which is added where P is true of it
pub picked_more : (P : Bytes → Type 0) (xs ys zs : List Bytes) (k : ℕ) (x : Bytes) → k < length xs → x ≡ get_or xs k x
    → Picked P (take k xs) ys → Adds P x ys zs → Picked P (take (k + 1) xs) zs
picked_more P xs ys zs k x lt is p adds =
    let split : take (k + 1) xs ≡ take k xs ++ x ∷ [] = take_more xs k x lt
    ∙ ap (λ (y : Bytes). take k xs ++ y ∷ []) (sym is) in
    subst (λ (l : List Bytes). Picked P l zs) (sym split)
    (⊎_elim (λ h. subst (Picked P (take k xs ++ x ∷ [])) (sym h.1) (picked_push P (take k xs) ys x p h.0))
    (λ h. subst (Picked P (take k xs ++ x ∷ [])) (sym h.1) (picked_skip P (take k xs) ys x p h.0)) adds)

pub picked_whole : (P : Bytes → Type 0) (xs ys : List Bytes) (n : ℕ) → length xs ≤ n → Picked P (take n xs) ys
    → Picked P xs ys
picked_whole P xs ys n end p = subst (λ (l : List Bytes). Picked P l ys) (take_all n xs end) p

-- ---- fewer names

pub fewer_same : (old new : List Bytes) → new ≡ old → AreFewer old new
fewer_same old new is = record {
  size = omega (arith, ap length is);
  among = λ q h. subst
      (λ (xs : List Bytes). Contains xs q) is h;
}

pub fewer_then : (one two three : List Bytes) → AreFewer one two → AreFewer two three → AreFewer one three
fewer_then one two three f g = record { size = omega (arith, f.size, g.size); among = λ q h. f.among q (g.among q h) }

filter_size : (p : Bytes → Bool) (xs : List Bytes) → length (filter p xs) ≤ length xs
filter_size p [] = omega arith
filter_size p (x ∷ xs) = elim (p x) as (λ b. length (cond b (x ∷ filter p xs) (filter p xs)) ≤ length (x ∷ xs))
    [ true ↦ omega (arith, filter_size p xs) | false ↦ omega (arith, filter_size p xs) ]

pub fewer_without : (names : List Bytes) (name : Bytes) → AreFewer names (without_name names name)
fewer_without names name = record {
  size = filter_size (λ held. not (bytes_eq held name)) names;
  among = λ q h.
      (without_only names name q h).0;
}

pub fewer_read : {A E : Type 0} (r : Result (Option A) E) (names : List Bytes) (name : Bytes)
    → AreFewer names (names_read r names name)
fewer_read (Ok None) names name = fewer_without names name
fewer_read (Ok (Some x)) names name = fewer_same names names refl
fewer_read (Err e) names name = fewer_same names names refl

-- a read of one record forgets no other name
pub other_read : {A E : Type 0} (r : Result (Option A) E) (names : List Bytes) (name q : Bytes) → (q ≡ name → ⊥)
    → Contains names q → Contains (names_read r names name) q
other_read (Ok None) names name q apart h = without_other names name q h apart
other_read (Ok (Some x)) names name q apart h = h
other_read (Err e) names name q apart h = h
