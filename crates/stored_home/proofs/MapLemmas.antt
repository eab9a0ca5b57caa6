-- Maps by bytes and by labels of leaves, and options that match.
use Rattle.std.proofs.Common.{◌≡◌, ◌≢◌, Option, None, Some, refl, sym, ap, ◌∙◌, subst, ◌⊎◌, inl, inr, ⊎_elim, Bool, true, false, cond, true≢false}
use Rattle.std.specs.Prelude.{IsSome}
use Rattle.std.specs.Ordering.{nat_cmp, eq_by_cmp, is_eq}
use Rattle.std.specs.declared.cmp.Ordering.{Ordering}
use Rattle.std.specs.declared.cmp.Ordering.TheVariants.{Less, Equal, Greater}
use Rattle.std.specs.Cmp.{eq_by_cmp_equiv}
use Rattle.std.specs.Cmp.Lexicographic.{slice_cmp, nat_list_cmp_total}
use Rattle.std.specs.FinMap.{FinMap, get, insert, remove, get-insert, get-remove, same_map, slice_cmp-IsAntisymmetric, nat_cmp-IsAntisymmetric}
use Rattle.share_api.specs.Contents.{Bytes}
use Rattle.stored_home.specs.Matching.{Matches}

-- the two names are equal
abbrev pub is_at : Bytes → Bytes → Bool
is_at q n = eq_by_cmp (slice_cmp nat_cmp) q n

-- an order that counts as equal is Equal
tie : (o : Ordering) → is_eq o ≡ true → o ≡ Equal
tie Less e = cc
tie Equal e = refl
tie Greater e = cc

pub at_same : (q n : Bytes) → is_at q n ≡ true → q ≡ n
at_same q n e = slice_cmp-IsAntisymmetric nat_cmp-IsAntisymmetric q n (tie (slice_cmp nat_cmp q n) e)

pub at_itself : (n : Bytes) → is_at n n ≡ true
at_itself n = (eq_by_cmp_equiv nat_list_cmp_total).refl n

-- a Bool is one of the two
pub either : (b : Bool) → (b ≡ true) ⊎ (b ≡ false)
either true = inl refl
either false = inr refl

pub not_at : (q n : Bytes) → q ≢ n → is_at q n ≡ false
not_at q n apart = ⊎_elim (λ e. absurd (apart (at_same q n e))) (λ e. e) (either (is_at q n))

-- two names are equal or differ
pub same_or_apart : (q n : Bytes) → (q ≡ n) ⊎ (q ≢ n)
same_or_apart q n = ⊎_elim (λ e. inl (at_same q n e))
    (λ e. inr (λ same. true≢false (sym (at_itself n) ∙ ap (λ (b : Bytes). is_at b n) (sym same) ∙ e)))
    (either (is_at q n))

module _ {X : Type 0} where
  -- what stands at a name after a value was put there
  pub put_at : (m : FinMap (slice_cmp nat_cmp) X) (n : Bytes) (x : X) → get (insert m n x) n ≡ Some x
  put_at m n x = get-insert nat_list_cmp_total m n x n ∙ ap (λ b. cond b (Some x) (get m n)) (at_itself n)

  -- and at another name
  pub put_other : (m : FinMap (slice_cmp nat_cmp) X) (n : Bytes) (x : X) (q : Bytes) → q ≢ n → get (insert m n x) q ≡ get m q
  put_other m n x q apart =
      get-insert nat_list_cmp_total m n x q ∙ ap (λ b. cond b (Some x) (get m q)) (not_at q n apart)

  -- what stands at a name that was taken away, and at another
  pub taken_at : (m : FinMap (slice_cmp nat_cmp) X) (n : Bytes) → get (remove m n) n ≡ None
  taken_at m n = get-remove nat_list_cmp_total m n n ∙ ap (λ b. cond b None (get m n)) (at_itself n)

  pub taken_other : (m : FinMap (slice_cmp nat_cmp) X) (n q : Bytes) → q ≢ n → get (remove m n) q ≡ get m q
  taken_other m n q apart = get-remove nat_list_cmp_total m n q ∙ ap (λ b. cond b None (get m q)) (not_at q n apart)

-- a value that is put where it stands changes nothing
pub put_same : {X : Type 0} (m : FinMap (slice_cmp nat_cmp) X) (n : Bytes) (x : X) → get m n ≡ Some x → insert m n x ≡ m
put_same m n x there = same_map nat_list_cmp_total (slice_cmp-IsAntisymmetric nat_cmp-IsAntisymmetric) (insert m n x) m
    (λ q. ⊎_elim (λ e. ap (get (insert m n x)) e ∙ put_at m n x ∙ sym there ∙ ap (get m) (sym e))
    (λ away. put_other m n x q away) (same_or_apart q n))

-- None is no Some
pub not_None : {X : Type 0} (x : X) → Some x ≡ None → ⊥
not_None x e = true≢false (ap (λ o. elim o as (λ _. Bool) [ None ↦ false | Some y ↦ true ]) e)

pub some_not_None : {X : Type 0} (o : Option X) → IsSome o → o ≡ None → ⊥
some_not_None None p e = true≢false (sym p)
some_not_None (Some x) p e = not_None x e

-- equal Somes have equal values
pub from_some : {X : Type 0} (a b : X) → Some a ≡ Some b → a ≡ b
from_some {X} a b e = ap (λ o. elim o as (λ _. X) [ None ↦ a | Some x ↦ x ]) e

-- what is there is Some value
pub some_is : {X : Type 0} (o : Option X) → IsSome o → (x : X) × (o ≡ Some x)
some_is None p = absurd (true≢false (sym p))
some_is (Some x) p = (x, refl)

-- what matches goes by a weaker relation too
pub matches_weaker : {A B : Type 0} (R S : A → B → Type 0) (x : Option A) (y : Option B)
    → ((a : A) (b : B) → x ≡ Some a → y ≡ Some b → R a b → S a b) → Matches R x y → Matches S x y
matches_weaker R S None None f h = tt
matches_weaker R S None (Some b) f h = h
matches_weaker R S (Some a) None f h = h
matches_weaker R S (Some a) (Some b) f h = f a b refl refl h

-- two that are there and match go by the relation
pub matched : {A B : Type 0} (R : A → B → Type 0) (x : Option A) (y : Option B) (a : A) (b : B)
    → x ≡ Some a → y ≡ Some b → Matches R x y → R a b
matched R x y a b p q h = subst (λ v. Matches R (Some a) v) q (subst (λ u. Matches R u y) p h)

-- where the one is there the other is
pub matched_right : {A B : Type 0} (R : A → B → Type 0) (x : Option A) (y : Option B) (b : B)
    → y ≡ Some b → Matches R x y → (a : A) × (x ≡ Some a) × R a b
matched_right R None y b q h = absurd (subst (λ v. Matches R None v) q h)
matched_right R (Some a) y b q h = (a, refl, subst (λ v. Matches R (Some a) v) q h)
