-- Rows in order, as a finite map.
use Rattle.std.proofs.Common.{◌≡◌, Bool, true, false, not, cond, None, List, [], ◌∷◌, length, refl, ap, sym, ◌∙◌, subst}
use Rattle.std.specs.Prelude.{T, ◌&&◌}
use Rattle.std.specs.List.{filter}
use Rattle.std.specs.Ordering.{eq_by_cmp, is_eq, is_lt}
use Rattle.std.specs.declared.cmp.Ordering.TheVariants.{Less, Equal, Greater}
use Rattle.std.specs.declared.cmp.Ordering.{Ordering}
use Rattle.std.specs.Cmp.{eq_by_cmp_equiv}
use Rattle.std.specs.Cmp.Lexicographic.{nat_list_cmp_total}
use Rattle.std.specs.FinMap.{FinMap, find, put, is_sorted, entries, entries_sorted, same_entries_map, same_map, get, get-from_sorted, get-remove, insert, remove, from_sorted, empty, entries-insert, entries-from_sorted, len, len-entries, empty_of_len, nat_cmp-IsAntisymmetric, slice_cmp-IsAntisymmetric}
use Rattle.std.specs.FinMap.Entries.{below_all, is_sorted-where_key, find-where_key}
use Rattle.name_map.specs.Rows.{IsRows, without, by_order}
use Rattle.name_map.proofs.RowLemmas.{Name, order, same_name}

pub in_order : (b : Bool) → b ≡ true → T b
in_order b is = subst T (sym is) tt

pub order_of : (b : Bool) → T b → b ≡ true
order_of true is = refl
order_of false is = absurd is

swap_arms : {A : Type 0} (b c : Bool) (x y : A) → b ≡ c → cond (not b) x y ≡ cond c y x
swap_arms true c x y e = ap (λ d. cond d y x) e
swap_arms false c x y e = ap (λ d. cond d y x) e

and_parts : (a b : Bool) → T (a && b) → T a × T b
and_parts true b is = (tt, is)
and_parts false b is = absurd is

and_both : (a b : Bool) → T a → T b → T (a && b)
and_both true b p q = q
and_both false b p q = p

less_of : (o : Ordering) → T (is_lt o) → o ≡ Less
less_of Less is = refl
less_of Equal is = absurd is
less_of Greater is = absurd is

abbrev others : {V : Type 0} → Name → List (Name × V) → List (Name × V)
others name rows = filter (λ row. not (eq_by_cmp order name row.0)) rows

module _ {V : Type 0} where
  pub entries-rows : (rows : List (Name × V)) → IsRows rows → entries (from_sorted {R = order} rows) ≡ rows
  entries-rows rows sorted = entries-from_sorted order rows (in_order _ sorted)

  -- the rows of a map are in order
  pub IsRows-entries : (m : FinMap order V) → IsRows (entries m)
  IsRows-entries m = order_of _ (entries_sorted m)

  pub get-rows : (rows : List (Name × V)) (name : Name) → IsRows rows → get (from_sorted {R = order} rows) name ≡ find order name rows
  get-rows rows name sorted = get-from_sorted order rows name (in_order _ sorted)

  pub len-rows : (rows : List (Name × V)) → IsRows rows → len (from_sorted {R = order} rows) ≡ length rows
  len-rows rows sorted = len-entries _ ∙ ap length (entries-rows rows sorted)

  pub empty-rows : from_sorted {R = order} (let none : List (Name × V) = [] in none) ≡ empty
  empty-rows = empty_of_len _ (len-rows [] refl)

  entries-put : (rows : List (Name × V)) (name : Name) (value : V) → IsRows rows → entries (insert (from_sorted {R = order} rows) name value) ≡ put order name value rows
  entries-put rows name value sorted = entries-insert nat_list_cmp_total _ name value ∙ ap (put order name value) (entries-rows rows sorted)

  pub IsRows-put : (rows : List (Name × V)) (name : Name) (value : V) → IsRows rows → IsRows (put order name value rows)
  IsRows-put rows name value sorted = subst IsRows (entries-put rows name value sorted) (IsRows-entries _)

  pub from_sorted-put : (rows : List (Name × V)) (name : Name) (value : V) → IsRows rows → from_sorted {R = order} (put order name value rows) ≡ insert (from_sorted rows) name value
  from_sorted-put rows name value sorted =
      same_entries_map _ _ (entries-rows _ (IsRows-put rows name value sorted) ∙ sym (entries-put rows name value sorted))

  -- a name below one that is below all rows
  below_below : (name other : Name) (rows : List (Name × V)) → order name other ≡ Less → T (below_all order other rows) → T (below_all order name rows)
  below_below name other [] less below = tt
  below_below name other (row ∷ rows) less below =
      let parts = and_parts _ _ below in
      and_both _ _ (subst (λ o. T (is_lt o)) (sym (nat_list_cmp_total.trans name other row.0 less (less_of _ parts.0))) tt) (below_below name other rows less parts.1)

  -- a name below all rows is none of theirs
  others-below : (name : Name) (rows : List (Name × V)) → T (below_all order name rows) → others name rows ≡ rows
  others-below name [] below = refl
  others-below name (row ∷ rows) below =
      let parts = and_parts _ _ below in
      ap (λ o. cond (not (is_eq o)) (row ∷ others name rows) (others name rows)) (less_of _ parts.0)
      ∙ ap (λ rest. row ∷ rest) (others-below name rows parts.1)

  -- the rows of other names are those without the name's
  others-without : (name : Name) (rows : List (Name × V)) → T (is_sorted order rows) → others name rows ≡ without name rows
  others-without name [] sorted = refl
  others-without name (row ∷ rows) sorted =
      let parts = and_parts _ _ sorted in
      elim (order name row.0) as (λ o. order name row.0 ≡ o
      → cond (not (is_eq o)) (row ∷ others name rows) (others name rows) ≡ by_order o (row ∷ rows) rows (row ∷ without name rows)) [
        | Less ↦ λ is. ap (λ rest. row ∷ rest) (others-below name rows (below_below name row.0 rows is parts.0))
        | Equal ↦ λ is. others-below name rows (subst (λ n. T (below_all order n rows)) (sym (same_name _ _ is)) parts.0)
        | Greater ↦ λ is. ap (λ rest. row ∷ rest) (others-without name rows parts.1)
      ] refl

  IsRows-others : (rows : List (Name × V)) (name : Name) → IsRows rows → IsRows (others name rows)
  IsRows-others rows name sorted = order_of _ (is_sorted-where_key order (λ x. not (eq_by_cmp order name x)) rows (in_order _ sorted))

  from_sorted-others : (rows : List (Name × V)) (name : Name) → IsRows rows → from_sorted {R = order} (others name rows) ≡ remove (from_sorted rows) name
  from_sorted-others rows name sorted = same_map nat_list_cmp_total (slice_cmp-IsAntisymmetric nat_cmp-IsAntisymmetric) _ _ (λ q.
      get-rows _ q (IsRows-others rows name sorted)
      ∙ find-where_key order (λ x. not (eq_by_cmp order name x)) q (λ x tied. ap (λ y. not (eq_by_cmp order name y)) (sym (same_name q x tied))) rows
      ∙ swap_arms _ _ _ _ ((eq_by_cmp_equiv nat_list_cmp_total).symm name q)
      ∙ ap (λ found. cond (eq_by_cmp order q name) None found) (sym (get-rows rows q sorted))
      ∙ sym (get-remove nat_list_cmp_total _ name q))

  pub IsRows-without : (rows : List (Name × V)) (name : Name) → IsRows rows → IsRows (without name rows)
  IsRows-without rows name sorted = subst IsRows (others-without name rows (in_order _ sorted)) (IsRows-others rows name sorted)

  pub from_sorted-without : (rows : List (Name × V)) (name : Name) → IsRows rows → from_sorted {R = order} (without name rows) ≡ remove (from_sorted rows) name
  from_sorted-without rows name sorted = ap from_sorted (sym (others-without name rows (in_order _ sorted))) ∙ from_sorted-others rows name sorted
