-- Whether a loaded record names a leaf.
use Rattle.std.proofs.Common.{◌≡◌, ℕ, Bool, true, false, cond, List, [], ◌∷◌, Option, None, Some, refl, sym, ap, ◌∙◌, ⊎_elim, true≢false, eq-eqb}
use Rattle.std.specs.Prelude.{◌||◌, IfSome}
use Rattle.std.specs.List.{AllByRecursion, list_any}
use Rattle.std.specs.Ordering.{nat_cmp, eq_by_cmp}
use Rattle.std.specs.Cmp.Lexicographic.{slice_cmp}
use Rattle.std.specs.FinMap.{find, entries, get, get-entries}
use Rattle.std.proofs.lemmas.Bool.{eqb-true}
use Rattle.std.proofs.lemmas.List.Elements.{recursion_from_All}
use Rattle.factor_files.specs.declared.factor.FactorRecord.{FactorRecord}
use Rattle.share_api.specs.Contents.{Bytes}
use Rattle.stash_format.proofs.Rows.{Everywhere-entries}
use Rattle.stored_home.specs.Loaded.{Rows}
use Rattle.stored_home.proofs.MapLemmas.{either, not_None, from_some}
use Rattle.pin_edits.specs.Pins.{names_tree, IsFreeLeaf, IsTakenLeaf}

neither_first : (a b : Bool) → (a || b) ≡ false → a ≡ false
neither_first true b e = e
neither_first false b e = refl

neither_second : (a b : Bool) → (a || b) ≡ false → b ≡ false
neither_second true b e = absurd (true≢false e)
neither_second false b e = e

module _ (tree : ℕ) where
  abbrev names : Bytes × FactorRecord → Bool
  names row = names_tree tree row.1.leaf

  -- where no row names the leaf, one that is found doesn't
  found_names : (rows : List (Bytes × FactorRecord)) (label : Bytes) (row : FactorRecord)
      → list_any names rows ≡ false → find (slice_cmp nat_cmp) label rows ≡ Some row → names (label, row) ≡ false
  found_names [] label row none e = absurd (not_None row (sym e))
  found_names (first ∷ rows) label row none e =
      by (found_names rows label row (neither_second (names first) (list_any names rows) none))
      (eq_by_cmp (slice_cmp nat_cmp) label first.0) e
    where
      by : (find (slice_cmp nat_cmp) label rows ≡ Some row → names (label, row) ≡ false) → (b : Bool)
          → cond b (Some first.1) (find (slice_cmp nat_cmp) label rows) ≡ Some row → names (label, row) ≡ false
      by rest true e = ap (λ (r : FactorRecord). names (label, r)) (sym (from_some first.1 row e))
          ∙ neither_first (names first) (list_any names rows) none
      by rest false e = rest e

  -- the other leaf is this one
  names_it : (leaf : Option ℕ) → names_tree tree leaf ≡ true → leaf ≡ Some tree
  names_it None e = absurd (true≢false (sym e))
  names_it (Some other) e = ap (λ (n : ℕ). Some n) (eqb-true other tree e)

  -- where a row names the leaf, one that is loaded does
  named_row : (rows : Rows) (es : List (Bytes × FactorRecord)) → list_any names es ≡ true
      → AllByRecursion (λ (e : Bytes × FactorRecord). get rows e.0 ≡ Some e.1) es → IsTakenLeaf rows tree
  named_row rows [] e all = absurd (true≢false (sym e))
  named_row rows (first ∷ es) e all = ⊎_elim
      (λ here. (first.0, record { row = first.1; there = all.0; names = names_it first.1.leaf here }))
      (λ other. named_row rows es (sym (ap (λ b. b || list_any names es) other) ∙ e) all.1)
      (either (names first))

  itself : (o : Option FactorRecord) → IfSome o (λ row. o ≡ Some row)
  itself None = tt
  itself (Some row) = refl

  pub taken_leaf : (rows : Rows)
      → list_any (λ (row : Bytes × FactorRecord). names_tree tree row.1.leaf) (entries rows) ≡ true
      → IsTakenLeaf rows tree
  taken_leaf rows e = named_row rows (entries rows) e
      (recursion_from_All (λ (e : Bytes × FactorRecord). get rows e.0 ≡ Some e.1) (entries rows)
      (Everywhere-entries (λ name row. get rows name ≡ Some row) rows (λ name. itself (get rows name))))

  pub free_leaf : (rows : Rows)
      → list_any (λ (row : Bytes × FactorRecord). names_tree tree row.1.leaf) (entries rows) ≡ false
      → IsFreeLeaf rows tree
  free_leaf rows none label n =
      true≢false (sym (ap (names_tree tree) n.names ∙ eq-eqb tree tree refl)
      ∙ found_names (entries rows) label n.row none (sym (get-entries rows label) ∙ n.there))
