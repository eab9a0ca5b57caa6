-- Building a tree label by label.
use Rattle.std.proofs.Common.{◌≡◌, ℕ, ◌+◌, ◌<◌, ◌≤◌, inl, inr, Option, Some, None, List, refl, sym, ◌∙◌, ap, arith}
use Rattle.std.proofs.lemmas.Bool.{cases_lt, cases_eq}
use Rattle.pw_path.specs.Tree.{no_hash}
use Rattle.pw_path.proofs.TreeLemmas.{set_value_other, set_value_same}
use Rattle.pw_leaf.specs.Reading.{mac_of}
use Rattle.chip_replay.specs.Records.{Rows, value_of_row, values_of, with_value_where}

-- other labels keep their values
pub stays : (values : ℕ → List ℕ) (label : ℕ) (row : Option (List ℕ)) (i : ℕ) → (i ≡ label → ⊥) → with_value_where values label row i ≡ values i
stays values label None i ne = refl
stays values label (Some bytes) i ne = set_value_other values label (mac_of bytes) i ne

-- a label that had no value has its record's
pub gains : (values : ℕ → List ℕ) (label : ℕ) (row : Option (List ℕ)) → values label ≡ no_hash → with_value_where values label row label ≡ value_of_row row
gains values label None none = none
gains values label (Some bytes) none = set_value_same values label (mac_of bytes)

-- one label more is built
pub built_more : (old new : ℕ → List ℕ) (rows : Rows) (n : ℕ) → new ≡ with_value_where old n (rows n)
    → ((i : ℕ) → i < n → old i ≡ values_of rows i) → ((i : ℕ) → n ≤ i → old i ≡ no_hash)
    → (i : ℕ) → i < n + 1 → new i ≡ values_of rows i
built_more old new rows n is built empty i lt =
    ap (λ (f : ℕ → List ℕ). f i) is ∙
    elim (cases_eq i n) [
      | inl same ↦ rw same (gains old n (rows n) (empty n (omega arith)))
      | inr ne ↦ stays old n (rows n) i ne ∙ built i (omega (arith, lt, ne))
    ]

-- the labels behind it are still empty
pub empty_behind : (old new : ℕ → List ℕ) (rows : Rows) (n : ℕ) → new ≡ with_value_where old n (rows n)
    → ((i : ℕ) → n ≤ i → old i ≡ no_hash) → (i : ℕ) → n + 1 ≤ i → new i ≡ no_hash
empty_behind old new rows n is empty i le =
    ap (λ (f : ℕ → List ℕ). f i) is ∙ stays old n (rows n) i (λ e. omega arith) ∙ empty i (omega arith)

-- after the last label the whole is built
pub whole : (values : ℕ → List ℕ) (rows : Rows) → ((i : ℕ) → i < 16384 → values i ≡ values_of rows i) → ((i : ℕ) → 16384 ≤ i → values i ≡ no_hash)
    → ((i : ℕ) → 16384 ≤ i → rows i ≡ None) → values ≡ values_of rows
whole values rows built empty past =
    let at : (i : ℕ) → values i ≡ values_of rows i =
    λ i. elim (cases_lt i 16384) [
      | inl lt ↦ built i lt
      | inr ge ↦ empty i (omega arith) ∙ sym (ap value_of_row (past i (omega arith)))
    ] in
    λ j i. at i j
