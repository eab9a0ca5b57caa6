use Rattle.std.proofs.Common.{◌≡◌, ◌+◌, drop}
use Rattle.name_map.specs.Rows.{place, stands}
use Rattle.name_map.proofs.map.seek.Given as goal

-- the rows so far stand before the name
abbrev pub invariant-loop-at : goal.invariant-loop-at
invariant-loop-at g l =
    (place l.name l.rows ≡ l.at + place l.name (drop l.at l.rows)) × (stands l.name l.rows ≡ stands l.name (drop l.at l.rows))
