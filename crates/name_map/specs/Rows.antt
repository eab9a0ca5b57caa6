-- Rows of a map, in the order of their names.
use Rattle.std.specs.Prelude.{ℕ, suc, Bool, true, false, List, [], ◌∷◌, IsTrue}
use Rattle.std.specs.Ordering.{nat_cmp}
use Rattle.std.specs.declared.cmp.Ordering.{Ordering}
use Rattle.std.specs.declared.cmp.Ordering.TheVariants.{Less, Equal, Greater}
use Rattle.std.specs.Cmp.Lexicographic.{slice_cmp}
use Rattle.std.specs.FinMap.{is_sorted}

-- the names rise strictly
abbrev pub IsRows : {V : Type 0} → List (List ℕ × V) → Type 0
IsRows rows = IsTrue (is_sorted (slice_cmp nat_cmp) rows)

-- a choice by the order of a name and a row's
abbrev pub by_order : {A : Type 0} → Ordering → A → A → A → A
by_order Less below here above = below
by_order Equal below here above = here
by_order Greater below here above = above

-- the number of rows before a name
abbrev pub place : {V : Type 0} → List ℕ → List (List ℕ × V) → ℕ
place name [] = 0
place name (row ∷ rows) = by_order (slice_cmp nat_cmp name row.0) 0 0 (suc (place name rows))

-- whether the name's row stands behind them
abbrev pub stands : {V : Type 0} → List ℕ → List (List ℕ × V) → Bool
stands name [] = false
stands name (row ∷ rows) = by_order (slice_cmp nat_cmp name row.0) false true (stands name rows)

-- the rows without the name's
abbrev pub without : {V : Type 0} → List ℕ → List (List ℕ × V) → List (List ℕ × V)
without name [] = []
without name (row ∷ rows) = by_order (slice_cmp nat_cmp name row.0) (row ∷ rows) rows (row ∷ without name rows)
