-- How many values of a map pass a test, as values are put and taken away.
use Rattle.std.proofs.Common.{◌≡◌, ◌≢◌, ℕ, ◌+◌, ◌≤◌, ◌==◌, Bool, true, false, cond, List, [], ◌∷◌, map, Option, None, Some, refl, sym, ap, ◌∙◌, subst, ⊎_elim, arith}
use Rattle.std.specs.Prelude.{IfSome, count_by}
use Rattle.std.specs.List.{AllByRecursion}
use Rattle.std.specs.Ordering.{eq_by_cmp}
use Rattle.std.specs.declared.cmp.Ordering.{Ordering}
use Rattle.std.specs.declared.cmp.Ordering.TheVariants.{Less, Equal, Greater}
use Rattle.std.specs.Cmp.Lexicographic.{nat_list_cmp_total}
use Rattle.std.specs.FinMap.{FinMap, find, put, entries, values, get, get-entries, insert, remove, from_sorted, same_entries_map, entries-insert}
use Rattle.std.specs.FinMap.Entries as puts
use Rattle.std.proofs.lemmas.Bool.{eqb-false}
use Rattle.std.proofs.lemmas.List.Elements.{recursion_from_All}
use Rattle.std.proofs.lemmas.List.Recursion.{is_count_by}
use Rattle.name_map.specs.Rows.{without, by_order}
use Rattle.name_map.proofs.RowLemmas.{Name, order}
use Rattle.name_map.proofs.Maps.{IsRows-entries, IsRows-without, entries-rows, from_sorted-without}
use Rattle.stash_format.proofs.Rows.{Everywhere-entries}
use Rattle.stored_home.proofs.MapLemmas.{either, not_None, from_some, taken_at, taken_other}

-- counting more of a row
more : (b : Bool) (m n : ℕ) → m ≤ n → cond b (1 + m) m ≤ cond b (1 + n) n
more true m n h = omega (arith, h)
more false m n h = h

more_by_one : (b : Bool) (m n : ℕ) → m ≤ n + 1 → cond b (1 + m) m ≤ cond b (1 + n) n + 1
more_by_one true m n h = omega (arith, h)
more_by_one false m n h = h

counts : (b : Bool) (n : ℕ) → n ≤ cond b (1 + n) n
counts true n = omega arith
counts false n = omega arith

counts_one : (b : Bool) (n : ℕ) → cond b (1 + n) n ≤ n + 1
counts_one true n = omega arith
counts_one false n = omega arith

module _ {V : Type 0} (p : V → Bool) where
  -- how many values pass, by recursion
  many : List V → ℕ
  many [] = 0
  many (v ∷ vs) = cond (p v) (1 + many vs) (many vs)

  many_is : (vs : List V) → many vs ≡ count_by p vs
  unfolding many
  many_is vs = is_count_by many p refl (λ x xs. refl) vs

  abbrev of : List (Name × V) → List V
  of rows = map (λ (e : Name × V). e.1) rows

  many_put : (name : Name) (x : V) → p x ≡ false → (rows : List (Name × V))
      → many (of (put order name x rows)) ≤ many (of rows)
  unfolding many
  many_put name x fail [] = subst (λ b. cond b 1 0 ≤ 0) (sym fail) (omega arith)
  many_put name x fail (row ∷ rows) = step (many_put name x fail rows) (order name row.0)
    where
      step : many (of (put order name x rows)) ≤ many (of rows) → (o : Ordering)
          → many (of (puts.by_order o ((name, x) ∷ row ∷ rows) ((row.0, x) ∷ rows) (row ∷ put order name x rows)))
          ≤ many (of (row ∷ rows))
      step h Less = subst (λ b. cond b (1 + many (of (row ∷ rows))) (many (of (row ∷ rows))) ≤ many (of (row ∷ rows)))
          (sym fail) (omega arith)
      step h Equal = subst (λ b. cond b (1 + many (of rows)) (many (of rows)) ≤ many (of (row ∷ rows))) (sym fail)
          (counts (p row.1) (many (of rows)))
      step h Greater = more (p row.1) (many (of (put order name x rows))) (many (of rows)) h

  many_without : (name : Name) (rows : List (Name × V)) → many (of (without name rows)) ≤ many (of rows)
  unfolding many
  many_without name [] = omega arith
  many_without name (row ∷ rows) = step (many_without name rows) (order name row.0)
    where
      step : many (of (without name rows)) ≤ many (of rows) → (o : Ordering)
          → many (of (by_order o (row ∷ rows) rows (row ∷ without name rows))) ≤ many (of (row ∷ rows))
      step h Less = omega arith
      step h Equal = counts (p row.1) (many (of rows))
      step h Greater = more (p row.1) (many (of (without name rows))) (many (of rows)) h

  many_with : (name : Name) (rows : List (Name × V)) → many (of rows) ≤ many (of (without name rows)) + 1
  unfolding many
  many_with name [] = omega arith
  many_with name (row ∷ rows) = step (many_with name rows) (order name row.0)
    where
      step : many (of rows) ≤ many (of (without name rows)) + 1 → (o : Ordering)
          → many (of (row ∷ rows)) ≤ many (of (by_order o (row ∷ rows) rows (row ∷ without name rows))) + 1
      step h Less = omega arith
      step h Equal = counts_one (p row.1) (many (of rows))
      step h Greater = more_by_one (p row.1) (many (of rows)) (many (of (without name rows))) h

  -- one that is found counts
  many_found : (name : Name) (x : V) → p x ≡ true → (rows : List (Name × V)) → find order name rows ≡ Some x
      → 1 ≤ many (of rows)
  unfolding many
  many_found name x pass [] e = absurd (not_None x (sym e))
  many_found name x pass (row ∷ rows) e = by (many_found name x pass rows) (eq_by_cmp order name row.0) e
    where
      over : (b : Bool) (n : ℕ) → 1 ≤ n → 1 ≤ cond b (1 + n) n
      over true n h = omega arith
      over false n h = h

      by : (find order name rows ≡ Some x → 1 ≤ many (of rows)) → (b : Bool)
          → cond b (Some row.1) (find order name rows) ≡ Some x
          → 1 ≤ cond (p row.1) (1 + many (of rows)) (many (of rows))
      by rest true e = subst (λ b. 1 ≤ cond b (1 + many (of rows)) (many (of rows)))
          (sym (ap p (from_some row.1 x e) ∙ pass)) (omega arith)
      by rest false e = over (p row.1) (many (of rows)) (rest e)

  -- where some count, one is found
  one_counted : (m : FinMap order V) (rows : List (Name × V)) → 1 ≤ many (of rows)
      → AllByRecursion (λ (e : Name × V). get m e.0 ≡ Some e.1) rows
      → (q : Name) × (y : V) × (get m q ≡ Some y) × (p y ≡ true)
  unfolding many
  one_counted m [] h all = absurd (omega (arith, h))
  one_counted m (row ∷ rows) h all = ⊎_elim
      (λ pass. (row.0, row.1, all.0, pass))
      (λ fail. one_counted m rows (subst (λ b. 1 ≤ cond b (1 + many (of rows)) (many (of rows))) fail h) all.1)
      (either (p row.1))

  entries_removed : (m : FinMap order V) (name : Name) → entries (remove m name) ≡ without name (entries m)
  entries_removed m name =
      let whole : from_sorted {R = order} (entries m) ≡ m =
      same_entries_map (from_sorted {R = order} (entries m)) m (entries-rows (entries m) (IsRows-entries m)) in
      ap (λ (n : FinMap order V). entries n)
      (sym (from_sorted-without (entries m) name (IsRows-entries m) ∙ ap (λ (n : FinMap order V). remove n name) whole))
      ∙ entries-rows (without name (entries m)) (IsRows-without (entries m) name (IsRows-entries m))

  itself : (o : Option V) → IfSome o (λ x. o ≡ Some x)
  itself None = tt
  itself (Some x) = refl

  all_found : (m : FinMap order V) → AllByRecursion (λ (e : Name × V). get m e.0 ≡ Some e.1) (entries m)
  all_found m = recursion_from_All (λ (e : Name × V). get m e.0 ≡ Some e.1) (entries m)
      (Everywhere-entries (λ name x. get m name ≡ Some x) m (λ name. itself (get m name)))

  -- a value that doesn't pass adds none
  pub count_put : (m : FinMap order V) (name : Name) (x : V) → p x ≡ false
      → count_by p (values (insert m name x)) ≤ count_by p (values m)
  count_put m name x fail =
      let to : many (of (entries (insert m name x))) ≡ count_by p (values (insert m name x)) =
      many_is (of (entries (insert m name x))) in
      let from : many (of (entries m)) ≡ count_by p (values m) = many_is (of (entries m)) in
      let step : many (of (entries (insert m name x))) ≤ many (of (entries m)) =
      subst (λ es. many (of es) ≤ many (of (entries m))) (sym (entries-insert nat_list_cmp_total m name x))
      (many_put name x fail (entries m)) in
      omega (arith, to, from, step)

  -- nor does one that is taken away
  pub count_taken : (m : FinMap order V) (name : Name) → count_by p (values (remove m name)) ≤ count_by p (values m)
  count_taken m name =
      let to : many (of (entries (remove m name))) ≡ count_by p (values (remove m name)) =
      many_is (of (entries (remove m name))) in
      let from : many (of (entries m)) ≡ count_by p (values m) = many_is (of (entries m)) in
      let step : many (of (entries (remove m name))) ≤ many (of (entries m)) =
      subst (λ es. many (of es) ≤ many (of (entries m))) (sym (entries_removed m name))
      (many_without name (entries m)) in
      omega (arith, to, from, step)

  -- where one passes and it isn't the only one, there is another
  pub another : (m : FinMap order V) (name : Name) (x : V) → get m name ≡ Some x → p x ≡ true
      → (count_by p (values m) == 1) ≡ false
      → (q : Name) × (y : V) × (q ≢ name) × (get m q ≡ Some y) × (p y ≡ true)
  another m name x there pass apart =
      let from : many (of (entries m)) ≡ count_by p (values m) = many_is (of (entries m)) in
      let not_one : count_by p (values m) ≢ 1 = eqb-false (count_by p (values m)) 1 apart in
      let one : 1 ≤ many (of (entries m)) = many_found name x pass (entries m) (sym (get-entries m name) ∙ there) in
      let left : many (of (entries m)) ≤ many (of (without name (entries m))) + 1 = many_with name (entries m) in
      let some : 1 ≤ many (of (without name (entries m))) = omega (arith, from, not_one, one, left) in
      let found = one_counted (remove m name) (entries (remove m name))
      (subst (λ es. 1 ≤ many (of es)) (sym (entries_removed m name)) some) (all_found (remove m name)) in
      let away : found.0 ≢ name = λ e. not_None found.1
      (sym found.2 ∙ ap (get (remove m name)) e ∙ taken_at m name) in
      (found.0, found.1, away, sym (taken_other m name found.0 away) ∙ found.2, found.3)
