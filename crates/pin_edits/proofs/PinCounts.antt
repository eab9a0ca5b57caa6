-- How many values of a map pass a test, once a value is put that passes it.
use Rattle.std.proofs.Common.{◌≡◌, ℕ, ◌+◌, ◌≤◌, Bool, true, false, cond, List, [], ◌∷◌, map, None, Some, refl, sym, ap, ◌∙◌, subst, ⊎_elim, arith}
use Rattle.std.specs.Prelude.{count_by}
use Rattle.std.specs.Ordering.{eq_by_cmp, is_eq}
use Rattle.std.specs.declared.cmp.Ordering.{Ordering}
use Rattle.std.specs.declared.cmp.Ordering.TheVariants.{Less, Equal, Greater}
use Rattle.std.specs.Cmp.Lexicographic.{nat_list_cmp_total}
use Rattle.std.specs.FinMap.{FinMap, find, put, entries, values, get, get-entries, insert, remove, from_sorted, same_entries_map, entries-insert, same_map, slice_cmp-IsAntisymmetric, nat_cmp-IsAntisymmetric}
use Rattle.std.specs.FinMap.Entries as puts
use Rattle.std.proofs.lemmas.List.Recursion.{is_count_by}
use Rattle.name_map.specs.Rows.{without, by_order}
use Rattle.name_map.proofs.RowLemmas.{Name, order}
use Rattle.name_map.proofs.Maps.{IsRows-entries, IsRows-without, entries-rows, from_sorted-without}
use Rattle.stored_home.proofs.MapLemmas.{same_or_apart, put_at, put_other, taken_at, taken_other, not_None, from_some}

-- counting a row or not makes one at most
more_by_one : (b : Bool) (m n : ℕ) → m ≤ n + 1 → cond b (1 + m) m ≤ cond b (1 + n) n + 1
more_by_one true m n h = omega (arith, h)
more_by_one false m n h = h

less_by_one : (b : Bool) (m n : ℕ) → m + 1 ≤ n → cond b (1 + m) m + 1 ≤ cond b (1 + n) n
less_by_one true m n h = omega (arith, h)
less_by_one false m n h = h

counts_one : (b : Bool) (n : ℕ) → cond b (1 + n) n ≤ n + 1
counts_one true n = omega arith
counts_one false n = omega arith

either_counts : (a b : Bool) (n : ℕ) → cond a (1 + n) n ≤ cond b (1 + n) n + 1
either_counts true true n = omega arith
either_counts true false n = omega arith
either_counts false true n = omega arith
either_counts false false n = omega arith

module _ {V : Type 0} (p : V → Bool) where
  -- how many values pass, by recursion
  many : List V → ℕ
  many [] = 0
  many (v ∷ vs) = cond (p v) (1 + many vs) (many vs)

  many_is : (vs : List V) → many vs ≡ count_by p vs
  unfolding many
  many_is vs = is_count_by many p refl (λ x xs. refl) vs

  abbrev of : List (Name × V) → List V
  of rows = map (λ (e : Name × V). e.1) rows

  -- a value that is put adds one at most
  many_put : (name : Name) (x : V) (rows : List (Name × V)) → many (of (put order name x rows)) ≤ many (of rows) + 1
  unfolding many
  many_put name x [] = counts_one (p x) 0
  many_put name x (row ∷ rows) = step (many_put name x rows) (order name row.0)
    where
      step : many (of (put order name x rows)) ≤ many (of rows) + 1 → (o : Ordering)
          → many (of (puts.by_order o ((name, x) ∷ row ∷ rows) ((row.0, x) ∷ rows) (row ∷ put order name x rows)))
          ≤ many (of (row ∷ rows)) + 1
      step h Less = counts_one (p x) (many (of (row ∷ rows)))
      step h Equal = either_counts (p x) (p row.1) (many (of rows))
      step h Greater = more_by_one (p row.1) (many (of (put order name x rows))) (many (of rows)) h

  -- a value that passes counts no more once it is taken away
  many_without : (name : Name) (x : V) → p x ≡ true → (rows : List (Name × V)) → find order name rows ≡ Some x
      → find order name (without name rows) ≡ None → many (of (without name rows)) + 1 ≤ many (of rows)
  unfolding many
  many_without name x pass [] found gone = absurd (not_None x (sym found))
  many_without name x pass (row ∷ rows) found gone =
      step (λ f g. many_without name x pass rows f g) (order name row.0) refl found gone
    where
      step : (find order name rows ≡ Some x → find order name (without name rows) ≡ None
          → many (of (without name rows)) + 1 ≤ many (of rows)) → (o : Ordering) → order name row.0 ≡ o
          → cond (eq_by_cmp order name row.0) (Some row.1) (find order name rows) ≡ Some x
          → find order name (by_order o (row ∷ rows) rows (row ∷ without name rows)) ≡ None
          → many (of (by_order o (row ∷ rows) rows (row ∷ without name rows))) + 1 ≤ many (of (row ∷ rows))
      step rest Less is found gone = absurd (not_None x (sym found ∙ gone))
      step rest Equal is found gone =
          let same : row.1 ≡ x = from_some row.1 x
          (sym (ap (λ o. cond (is_eq o) (Some row.1) (find order name rows)) is) ∙ found) in
          subst (λ b. many (of rows) + 1 ≤ cond b (1 + many (of rows)) (many (of rows))) (sym (ap p same ∙ pass))
          (omega arith)
      step rest Greater is found gone = less_by_one (p row.1) (many (of (without name rows))) (many (of rows))
          (rest (sym (ap (λ o. cond (is_eq o) (Some row.1) (find order name rows)) is) ∙ found)
          (sym (ap (λ o. cond (is_eq o) (Some row.1) (find order name (without name rows))) is) ∙ gone))

  entries_removed : (m : FinMap order V) (name : Name) → entries (remove m name) ≡ without name (entries m)
  entries_removed m name =
      let whole : from_sorted {R = order} (entries m) ≡ m =
      same_entries_map (from_sorted {R = order} (entries m)) m (entries-rows (entries m) (IsRows-entries m)) in
      ap (λ (n : FinMap order V). entries n)
      (sym (from_sorted-without (entries m) name (IsRows-entries m) ∙ ap (λ (n : FinMap order V). remove n name) whole))
      ∙ entries-rows (without name (entries m)) (IsRows-without (entries m) name (IsRows-entries m))

  -- a value that is put adds one at most
  pub count_added : (m : FinMap order V) (name : Name) (x : V)
      → count_by p (values (insert m name x)) ≤ count_by p (values m) + 1
  count_added m name x =
      let to : many (of (entries (insert m name x))) ≡ count_by p (values (insert m name x)) =
      many_is (of (entries (insert m name x))) in
      let from : many (of (entries m)) ≡ count_by p (values m) = many_is (of (entries m)) in
      let step : many (of (entries (insert m name x))) ≤ many (of (entries m)) + 1 =
      subst (λ es. many (of es) ≤ many (of (entries m)) + 1) (sym (entries-insert nat_list_cmp_total m name x))
      (many_put name x (entries m)) in
      omega (arith, to, from, step)

  -- one that is taken away and passes counts no more
  count_gone : (m : FinMap order V) (name : Name) (x : V) → get m name ≡ Some x → p x ≡ true
      → count_by p (values (remove m name)) + 1 ≤ count_by p (values m)
  count_gone m name x there pass =
      let to : many (of (entries (remove m name))) ≡ count_by p (values (remove m name)) =
      many_is (of (entries (remove m name))) in
      let from : many (of (entries m)) ≡ count_by p (values m) = many_is (of (entries m)) in
      let gone : find order name (without name (entries m)) ≡ None =
      ap (λ es. find order name es) (sym (entries_removed m name)) ∙ sym (get-entries (remove m name) name)
      ∙ taken_at m name in
      let step : many (of (entries (remove m name))) + 1 ≤ many (of (entries m)) =
      subst (λ es. many (of es) + 1 ≤ many (of (entries m))) (sym (entries_removed m name))
      (many_without name x pass (entries m) (sym (get-entries m name) ∙ there) gone) in
      omega (arith, to, from, step)

  -- in the place of one that passes, none is more
  pub count_replaced : (m : FinMap order V) (name : Name) (old x : V) → get m name ≡ Some old → p old ≡ true
      → count_by p (values (insert m name x)) ≤ count_by p (values m)
  count_replaced m name old x there pass =
      let same : insert (remove m name) name x ≡ insert m name x =
      same_map nat_list_cmp_total (slice_cmp-IsAntisymmetric nat_cmp-IsAntisymmetric) (insert (remove m name) name x)
      (insert m name x)
      (λ q. ⊎_elim
      (λ e. ap (get (insert (remove m name) name x)) e ∙ put_at (remove m name) name x ∙ sym (put_at m name x)
      ∙ ap (get (insert m name x)) (sym e))
      (λ away. put_other (remove m name) name x q away ∙ taken_other m name q away ∙ sym (put_other m name x q away))
      (same_or_apart q name)) in
      let added : count_by p (values (insert m name x)) ≤ count_by p (values (remove m name)) + 1 =
      subst (λ (n : FinMap order V). count_by p (values n) ≤ count_by p (values (remove m name)) + 1) same
      (count_added (remove m name) name x) in
      let gone = count_gone m name old there pass in
      omega (arith, added, gone)
