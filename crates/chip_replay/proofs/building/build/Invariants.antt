use Rattle.std.proofs.Common.{◌≡◌, ℕ, ◌<◌, ◌≤◌, None}
use Rattle.pw_path.specs.Tree.{no_hash}
use Rattle.leaf_table.specs.Rows.{row_in}
use Rattle.label_tree.specs.Values.{value_in}
use Rattle.chip_replay.specs.Records.{values_of}
use Rattle.chip_replay.proofs.building.build.Given as goal

-- the labels so far have the MACs of their records, and the others none
abbrev pub invariant-loop-number : goal.invariant-loop-number
invariant-loop-number l = record {
  built : (i : ℕ) → i < l.number → value_in l.tree i ≡ values_of (row_in l.leaves) i;
  empty : (i : ℕ) → l.number ≤ i → value_in l.tree i ≡ no_hash;
  past : 1 ≤ l.number → (i : ℕ) → 16384 ≤ i → row_in l.leaves i ≡ None;
}
