use Rattle.std.proofs.Common.{◌≡◌, ◌+◌, ◌-◌, ◌*◌, length, take, replicate}
use Rattle.ct_bytes.specs.Writing.{written, behind}
use Rattle.pw_leaf.specs.LeafBytes.{pairs_bytes}
use Rattle.pw_leaf.proofs.write.pairs_field.Given as goal

-- the pairs so far are written, and zeros are behind them
abbrev pub invariant-loop-attempts : goal.invariant-loop-attempts
invariant-loop-attempts l = record {
  same : l.writer.bytes.ghost_name ≡ l.initial.writer.bytes.ghost_name;
  front : written l.writer ≡ pairs_bytes (take l.attempts-index l.attempts-items);
  room : length (behind l.writer) + 8 * l.attempts-index ≡ 128;
  rest : behind l.writer ≡ replicate (128 - 8 * l.attempts-index) 0;
}
