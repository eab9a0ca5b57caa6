-- What a map of made values has.
use Rattle.std.proofs.Common.{◌≡◌, true, false, Some, List, [], ◌∷◌, map, cond, length, refl, ap, sym, ◌∙◌, subst}
use Rattle.std.specs.Prelude.{◌&&◌, option_map, T}
use Rattle.std.specs.Ordering.{eq_by_cmp, is_lt}
use Rattle.std.specs.FinMap.{FinMap, find, is_sorted, entries, entries_sorted, get, get-entries, get-from_sorted, entries-from_sorted, len, len-entries}
use Rattle.std.specs.FinMap.Entries.{below_all}
use Rattle.std.proofs.lemmas.List.{length-map}
use Rattle.name_map.specs.Mapped.{map_values}
use Rattle.name_map.proofs.RowLemmas.{Name, order}

module _ {A B : Type 0} (f : A → B) where
  abbrev made : List (Name × A) → List (Name × B)
  made rows = map (λ (e : Name × A). (e.0, f e.1)) rows

  below-made : (name : Name) (rows : List (Name × A)) → below_all order name (made rows) ≡ below_all order name rows
  below-made name [] = refl
  below-made name (row ∷ rows) = ap (λ b. is_lt (order name row.0) && b) (below-made name rows)

  is_sorted-made : (rows : List (Name × A)) → is_sorted order (made rows) ≡ is_sorted order rows
  is_sorted-made [] = refl
  is_sorted-made (row ∷ rows) =
      ap (λ b. b && is_sorted order (made rows)) (below-made row.0 rows)
      ∙ ap (λ b. below_all order row.0 rows && b) (is_sorted-made rows)

  find-made : (name : Name) (rows : List (Name × A)) → find order name (made rows) ≡ option_map f (find order name rows)
  find-made name [] = refl
  find-made name (row ∷ rows) =
      elim (eq_by_cmp order name row.0) as (λ b. cond b (Some (f row.1)) (find order name (made rows)) ≡ option_map f (cond b (Some row.1) (find order name rows))) [
        | true ↦ refl
        | false ↦ find-made name rows
      ]

  in_order : (m : FinMap order A) → T (is_sorted order (made (entries m)))
  in_order m = subst T (sym (is_sorted-made (entries m))) (entries_sorted m)

  pub entries-map_values : (m : FinMap order A) → entries (map_values f m) ≡ made (entries m)
  entries-map_values m = entries-from_sorted order _ (in_order m)

  pub get-map_values : (m : FinMap order A) (name : Name) → get (map_values f m) name ≡ option_map f (get m name)
  get-map_values m name = get-from_sorted order _ name (in_order m) ∙ find-made name (entries m) ∙ ap (option_map f) (sym (get-entries m name))

  pub len-map_values : (m : FinMap order A) → len (map_values f m) ≡ len m
  len-map_values m = len-entries _ ∙ ap length (entries-map_values m) ∙ length-map _ _ ∙ sym (len-entries m)
