use Rattle.std.proofs.Common.{◌≡◌, ℕ, List, ◌++◌, map, drop}
use Rattle.stored_home.specs.declared.stored.Kept.{Kept}
use Rattle.turn_rows.proofs.files.names_of.Given as goal

-- the names so far, and those of the rows that are left
abbrev pub invariant-loop-row : goal.invariant-loop-row
invariant-loop-row l =
    l.names ++ map (λ (row : List ℕ × Kept). row.0) (drop l.row-index l.rows)
    ≡ map (λ (row : List ℕ × Kept). row.0) l.rows
