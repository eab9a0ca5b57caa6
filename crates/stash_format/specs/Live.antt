-- Entries put into a map.
use Rattle.std.specs.Prelude.{ℕ, List, [], ◌∷◌}
use Rattle.std.specs.Ordering.{nat_cmp}
use Rattle.std.specs.Cmp.Lexicographic.{slice_cmp}
use Rattle.std.specs.FinMap.{FinMap, insert}

-- the entries put into a map, one after the other
abbrev pub inserted_all : {X : Type 0} → FinMap (slice_cmp nat_cmp) X → List (List ℕ × X) → FinMap (slice_cmp nat_cmp) X
inserted_all m [] = m
inserted_all m (e ∷ es) = inserted_all (insert m e.0 e.1) es
