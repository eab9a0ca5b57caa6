-- Entries whose labels rise, put into a map one after the other, are the map's entries.
use Rattle.std.proofs.Common.{◌≡◌, ℕ, Bool, true, List, [], ◌∷◌, ◌++◌, refl, sym, ap, ◌∙◌, append_assoc}
use Rattle.std.specs.Prelude.{◌&&◌}
use Rattle.std.proofs.lemmas.List.{append-nil}
use Rattle.std.proofs.lemmas.Bool.{and_parts, and_from}
use Rattle.std.specs.declared.cmp.Ordering.{Ordering}
use Rattle.std.specs.declared.cmp.Ordering.TheVariants.{Less, Equal, Greater}
use Rattle.std.specs.Ordering.{nat_cmp, is_lt, ordering_reverse}
use Rattle.std.specs.Cmp.Lexicographic.{slice_cmp, nat_list_cmp_total}
use Rattle.std.specs.FinMap.{FinMap, empty, entries, insert, is_sorted, put, same_entries_map, entries-insert}
use Rattle.std.specs.FinMap.Entries.{by_order, below_all}
use Rattle.stash_format.specs.Live.{inserted_all}
use Rattle.name_map.proofs.Maps.{IsRows-entries, empty-rows, entries-rows}

abbrev pub order : List ℕ → List ℕ → Ordering
order = slice_cmp nat_cmp

-- what tests as less is less
pub is_less : (o : Ordering) → is_lt o ≡ true → o ≡ Less
is_less Less e = refl
is_less Equal e = absurd cc
is_less Greater e = absurd cc

-- what is below the other is below it in the other's sight
above : (x y : List ℕ) → is_lt (order x y) ≡ true → order y x ≡ Greater
above x y lt = nat_list_cmp_total.antisymm y x ∙ ap ordering_reverse (is_less _ lt)

module _ {X : Type 0} where
  -- each label is above the one before, and the first above the last one
  abbrev pub rising : List ℕ → List (List ℕ × X) → Bool
  rising last [] = true
  rising last (e ∷ es) = is_lt (order last e.0) && rising e.0 es

  pub rising-sorted : (last : List ℕ) (es : List (List ℕ × X)) → below_all order last es ≡ true → is_sorted order es ≡ true → rising last es ≡ true
  rising-sorted last [] below sorted = refl
  rising-sorted last (e ∷ es) below sorted =
      let parts = and_parts _ _ sorted in and_from _ _ (and_parts _ _ below).0 (rising-sorted e.0 es parts.0 parts.1)

  -- each entry is below this label
  all_below : List (List ℕ × X) → List ℕ → Bool
  all_below [] label = true
  all_below (e ∷ es) label = is_lt (order e.0 label) && all_below es label

  -- an entry above all others is put at the end
  put-last : (es : List (List ℕ × X)) (label : List ℕ) (value : X) → all_below es label ≡ true
      → put order label value es ≡ es ++ (label, value) ∷ []
  unfolding all_below
  put-last [] label value below = refl
  put-last (e ∷ es) label value below =
      let parts = and_parts _ _ below in
      ap (λ o. by_order o ((label, value) ∷ e ∷ es) ((e.0, value) ∷ es) (e ∷ put order label value es)) (above e.0 label parts.0)
      ∙ ap (λ (xs : List (List ℕ × X)). e ∷ xs) (put-last es label value parts.1)

  below_all-append : (label : List ℕ) (es fs : List (List ℕ × X)) → below_all order label (es ++ fs) ≡ true → below_all order label fs ≡ true
  below_all-append label [] fs all = all
  below_all-append label (e ∷ es) fs all = below_all-append label es fs (and_parts _ _ all).1

  -- in rising entries those in front are below one that follows
  front_below : (es : List (List ℕ × X)) (f : List ℕ × X) (fs : List (List ℕ × X)) → is_sorted order (es ++ f ∷ fs) ≡ true → all_below es f.0 ≡ true
  unfolding all_below
  front_below [] f fs sorted = refl
  front_below (e ∷ es) f fs sorted =
      let parts = and_parts _ _ sorted in
      and_from _ _ (and_parts _ _ (below_all-append e.0 es (f ∷ fs) parts.0)).0 (front_below es f fs parts.1)

  -- rising entries behind those of a map are its entries after they were put in
  entries-inserted_all : (m : FinMap order X) (es : List (List ℕ × X)) → is_sorted order (entries m ++ es) ≡ true
      → entries (inserted_all m es) ≡ entries m ++ es
  entries-inserted_all m [] sorted = sym (append-nil (entries m))
  entries-inserted_all m (e ∷ es) sorted =
      let grown : entries (insert m e.0 e.1) ≡ entries m ++ e ∷ [] =
      entries-insert nat_list_cmp_total m e.0 e.1 ∙ put-last (entries m) e.0 e.1 (front_below (entries m) e es sorted) in
      let regrouped : entries (insert m e.0 e.1) ++ es ≡ entries m ++ e ∷ es =
      ap (λ (xs : List (List ℕ × X)). xs ++ es) grown ∙ append_assoc (entries m) (e ∷ []) es in
      entries-inserted_all (insert m e.0 e.1) es (ap (is_sorted order) regrouped ∙ sorted) ∙ regrouped

  -- the empty map has no entry
  pub entries-empty : entries (empty {K = List ℕ} {X = X} {R = order}) ≡ []
  entries-empty = ap entries (sym empty-rows) ∙ entries-rows [] refl

  -- a map without entries is the empty one
  pub empty_of_none : (m : FinMap order X) → entries m ≡ [] → m ≡ empty
  empty_of_none m none = same_entries_map m empty (none ∙ sym entries-empty)

  -- a map is its entries, put in one after the other
  pub inserted_all-entries : (m : FinMap order X) → inserted_all empty (entries m) ≡ m
  inserted_all-entries m =
      let joined : entries (empty {K = List ℕ} {X = X} {R = order}) ++ entries m ≡ entries m = ap (λ (xs : List (List ℕ × X)). xs ++ entries m) entries-empty in
      same_entries_map _ _ (entries-inserted_all empty (entries m) (ap (is_sorted order) joined ∙ IsRows-entries m) ∙ joined)
