-- A map whose values are made from another's, name by name.
use Rattle.std.specs.Prelude.{ℕ, List, map}
use Rattle.std.specs.Ordering.{nat_cmp}
use Rattle.std.specs.Cmp.Lexicographic.{slice_cmp}
use Rattle.std.specs.FinMap.{FinMap, entries, from_sorted}

abbrev pub map_values : {A B : Type 0} → (A → B) → FinMap (slice_cmp nat_cmp) A → FinMap (slice_cmp nat_cmp) B
map_values {A} f m = from_sorted (map (λ (e : List ℕ × A). (e.0, f e.1)) (entries m))
