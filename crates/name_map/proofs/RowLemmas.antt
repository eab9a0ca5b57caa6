-- Rows in the order of their names, and what stands at a name's place.
use Rattle.std.proofs.Common.{◌≡◌, ℕ, suc, ◌+◌, ◌<◌, ◌≤◌, Bool, true, false, cond, Some, List, [], ◌∷◌, length, get_or, set, drop, refl, ap, sym, ◌∙◌, subst, arith}
use Rattle.std.specs.Prelude.{bytes_eq}
use Rattle.std.specs.List.{insert, remove}
use Rattle.std.specs.Ordering.{nat_cmp, is_eq, eq_by_cmp}
use Rattle.std.specs.declared.cmp.Ordering.{Ordering}
use Rattle.std.specs.declared.cmp.Ordering.TheVariants.{Less, Equal, Greater}
use Rattle.std.specs.Cmp.Lexicographic.{slice_cmp, nat_list_cmp_total}
use Rattle.std.specs.Cmp.{tied_itself}
use Rattle.std.specs.FinMap.{find, put, nat_cmp-IsAntisymmetric, slice_cmp-IsAntisymmetric}
use Rattle.std.proofs.lemmas.List.{at_drop_more}
use Rattle.std.proofs.lemmas.Slice.Eq.{bytes_eq-Decides}
use Rattle.name_map.specs.Rows.{place, stands, without, by_order}

abbrev pub Name : Type 0
Name = List ℕ

abbrev pub order : Name → Name → Ordering
order = slice_cmp nat_cmp

-- names that tie are one
pub same_name : (a b : Name) → order a b ≡ Equal → a ≡ b
same_name = slice_cmp-IsAntisymmetric nat_cmp-IsAntisymmetric

pub same_order : (a b : Name) → a ≡ b → order a b ≡ Equal
same_order a b same = subst (λ c. order a c ≡ Equal) same (tied_itself nat_list_cmp_total a)

is_eq-false : (o : Ordering) → (o ≡ Equal → ⊥) → is_eq o ≡ false
is_eq-false Less apart = refl
is_eq-false Equal apart = absurd (apart refl)
is_eq-false Greater apart = refl

is_eq-true : (o : Ordering) → o ≡ Equal → is_eq o ≡ true
is_eq-true o is = ap is_eq is

-- the order ties exactly the names that are the same bytes
pub eq_by_cmp-bytes_eq : (a b : Name) → eq_by_cmp order a b ≡ bytes_eq b a
eq_by_cmp-bytes_eq a b =
    let decides = bytes_eq-Decides b a in
    elim (bytes_eq b a) as (λ yes. bytes_eq b a ≡ yes → eq_by_cmp order a b ≡ yes) [
      | true ↦ λ yes. is_eq-true _ (same_order a b (sym (decides.0 yes)))
      | false ↦ λ different. is_eq-false _ (λ tied. let yes : bytes_eq b a ≡ true = decides.1 (sym (same_name a b tied)) in cc)
    ] refl

module _ {V : Type 0} where
  -- a search reads one row more
  pub find-step : (name : Name) (rows : List (Name × V)) (at : ℕ) (row : Name × V) (same : Bool) → at < length rows → row ≡ get_or rows at row → bytes_eq row.0 name ≡ same
      → find order name (drop at rows) ≡ cond same (Some row.1) (find order name (drop (at + 1) rows))
  find-step name rows at row same inside is test =
      at_drop_more (find order name) rows at row inside
      ∙ ap (λ r. find order name (r ∷ drop (at + 1) rows)) (sym is)
      ∙ ap (λ b. cond b (Some row.1) (find order name (drop (at + 1) rows))) (eq_by_cmp-bytes_eq name row.0 ∙ test)

  -- a name that stands at its place takes the new value there
  pub put-present : (name : Name) (value : V) (rows : List (Name × V)) → stands name rows ≡ true
      → (place name rows < length rows) × (put order name value rows ≡ set rows (place name rows) (name, value))
  put-present name value [] there = cc
  put-present name value (first ∷ rows) there =
      elim (order name first.0) as (λ o. order name first.0 ≡ o → by_order o false true (stands name rows) ≡ true
      → (by_order o 0 0 (suc (place name rows)) < suc (length rows)) × (put order name value (first ∷ rows) ≡ set (first ∷ rows) (by_order o 0 0 (suc (place name rows))) (name, value))) [
        | Less ↦ λ is yes. cc
        | Equal ↦ λ is yes. (omega arith, rw is (ap (λ n. (n, value) ∷ rows) (sym (same_name _ _ is))))
        | Greater ↦ λ is yes. let rest = put-present name value rows yes in (omega (arith, rest.0), rw is (ap (λ more. first ∷ more) rest.1))
      ] refl there

  -- a name that doesn't stand there is inserted there
  pub put-absent : (name : Name) (value : V) (rows : List (Name × V)) → stands name rows ≡ false
      → (place name rows ≤ length rows) × (put order name value rows ≡ insert rows (place name rows) (name, value))
  put-absent name value [] gap = (omega arith, refl)
  put-absent name value (first ∷ rows) gap =
      elim (order name first.0) as (λ o. order name first.0 ≡ o → by_order o false true (stands name rows) ≡ false
      → (by_order o 0 0 (suc (place name rows)) ≤ suc (length rows)) × (put order name value (first ∷ rows) ≡ insert (first ∷ rows) (by_order o 0 0 (suc (place name rows))) (name, value))) [
        | Less ↦ λ is yes. (omega arith, rw is refl)
        | Equal ↦ λ is yes. cc
        | Greater ↦ λ is yes. let rest = put-absent name value rows yes in (omega (arith, rest.0), rw is (ap (λ more. first ∷ more) rest.1))
      ] refl gap

  -- the name's row is taken away at its place
  pub without-present : (name : Name) (rows : List (Name × V)) → stands name rows ≡ true → without name rows ≡ remove rows (place name rows)
  without-present name [] there = cc
  without-present name (first ∷ rows) there =
      elim (order name first.0) as (λ o. by_order o false true (stands name rows) ≡ true
      → by_order o (first ∷ rows) rows (first ∷ without name rows) ≡ remove (first ∷ rows) (by_order o 0 0 (suc (place name rows)))) [
        | Less ↦ λ is. cc
        | Equal ↦ λ is. refl
        | Greater ↦ λ is. ap (λ more. first ∷ more) (without-present name rows is)
      ] there

  pub without-absent : (name : Name) (rows : List (Name × V)) → stands name rows ≡ false → without name rows ≡ rows
  without-absent name [] gap = refl
  without-absent name (first ∷ rows) gap =
      elim (order name first.0) as (λ o. by_order o false true (stands name rows) ≡ false
      → by_order o (first ∷ rows) rows (first ∷ without name rows) ≡ first ∷ rows) [
        | Less ↦ λ is. refl
        | Equal ↦ λ is. cc
        | Greater ↦ λ is. ap (λ more. first ∷ more) (without-absent name rows is)
      ] gap

  pub place-inside : (name : Name) (rows : List (Name × V)) → stands name rows ≡ true → place name rows < length rows
  place-inside name [] there = cc
  place-inside name (first ∷ rows) there =
      elim (order name first.0) as (λ o. by_order o false true (stands name rows) ≡ true → by_order o 0 0 (suc (place name rows)) < suc (length rows)) [
        | Less ↦ λ is. cc
        | Equal ↦ λ is. omega arith
        | Greater ↦ λ is. omega (arith, place-inside name rows is)
      ] there
