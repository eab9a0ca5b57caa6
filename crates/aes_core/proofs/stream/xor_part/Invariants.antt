use Rattle.std.proofs.Common.{◌≡◌, ℕ, ◌<◌, ◌≤◌, length, slice_index, bit_xor}
use Rattle.aes_core.proofs.stream.xor_part.Given as goal

abbrev pub invariant-bytes : goal.invariant-bytes
invariant-bytes l = record {
  len : length l.part ≡ length l.initial.part;
  done : (j : ℕ) → j < l.k
      → slice_index l.part j ≡ bit_xor (slice_index l.initial.part j) (slice_index l.block j);
  left : (j : ℕ) → l.k ≤ j → slice_index l.part j ≡ slice_index l.initial.part j;
}
