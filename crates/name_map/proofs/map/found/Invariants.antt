use Rattle.std.proofs.Common.{◌≡◌, drop}
use Rattle.std.specs.Ordering.{nat_cmp}
use Rattle.std.specs.Cmp.Lexicographic.{slice_cmp}
use Rattle.std.specs.FinMap.{find}
use Rattle.name_map.proofs.map.found.Given as goal

-- the rows so far have other names
abbrev pub invariant-loop-row : goal.invariant-loop-row
invariant-loop-row g l = find (slice_cmp nat_cmp) l.name l.rows ≡ find (slice_cmp nat_cmp) l.name (drop l.row-index l.rows)
