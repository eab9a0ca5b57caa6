use Rattle.std.proofs.Common.{◌≡◌, ◌+◌, ◌-◌, ◌≤◌, ◌++◌, length, take}
use Rattle.label_tree.specs.Nodes.{rows_at, places_above}
use Rattle.label_tree.proofs.nodes.siblings.Given as goal

abbrev pub invariant-loop-level : goal.invariant-loop-level
invariant-loop-level l = record {
  size : length l.rows ≡ 7;
  below : l.place + places_above (7 - l.level) ≤ 21844;
  made : take l.level l.rows ++ rows_at l.nodes l.place (7 - l.level) ≡ rows_at l.nodes l.fn.label 7;
}
