use Rattle.std.proofs.Common.{◌≡◌, ℕ, ◌<◌, length, slice_index, bit_xor}
use Rattle.hmac_sha.proofs.pads.padded.Given as goal

abbrev pub invariant-bytes : goal.invariant-bytes
invariant-bytes l = record {
  len : length l.out ≡ 64;
  done : (j : ℕ) → j < l.i → slice_index l.out j ≡ bit_xor (slice_index l.block j) l.pad;
}
