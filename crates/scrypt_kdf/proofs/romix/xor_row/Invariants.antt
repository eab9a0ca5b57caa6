use Rattle.std.proofs.Common.{◌≡◌, ℕ, ◌<◌, ◌≤◌, length, slice_index, bit_xor}
use Rattle.scrypt_kdf.proofs.romix.xor_row.Given as goal

-- the words so far are under xor with those of the row, and the others as they were
abbrev pub invariant-words : goal.invariant-words
invariant-words l = record {
  len : length l.b ≡ length l.initial.b;
  done : (j : ℕ) → j < l.k → slice_index l.b j ≡ bit_xor (slice_index l.initial.b j) (slice_index l.row j);
  left : (j : ℕ) → l.k ≤ j → slice_index l.b j ≡ slice_index l.initial.b j;
}
