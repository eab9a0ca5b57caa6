use Rattle.std.proofs.Common.{◌≡◌, ◌+◌, ◌-◌, ◌*◌, ◌++◌, length, take, drop}
use Rattle.pw_leaf.specs.Reading.{pairs_of}
use Rattle.pw_leaf.proofs.read.pairs_of.Given as goal

abbrev pub invariant-loop-index : goal.invariant-loop-index
invariant-loop-index l = record {
  size : length l.pairs ≡ 16;
  read : take l.index l.pairs ++ pairs_of (l.count - l.index) (drop (4 + 8 * l.index) l.bytes) ≡ pairs_of l.count (drop 4 l.bytes);
}
