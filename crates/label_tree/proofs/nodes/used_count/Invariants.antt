use Rattle.std.proofs.Common.{◌≡◌, ◌≤◌}
use Rattle.label_tree.specs.Values.{value_in, used_below}
use Rattle.label_tree.proofs.nodes.used_count.Given as goal

abbrev pub invariant-loop-number : goal.invariant-loop-number
invariant-loop-number l = record {
  most : l.count ≤ l.number;
  counted : l.count ≡ used_below (value_in l.nodes) l.number;
}
