use Rattle.std.proofs.Common.{◌≡◌, take}
use Rattle.name_map.proofs.map.copies.Given as goal

-- the rows so far are copied
abbrev pub invariant-loop-row : goal.invariant-loop-row
invariant-loop-row g l = l.copies.items ≡ take l.row-index l.rows
