use Rattle.std.proofs.Common.{◌≡◌, ℕ, ◌<◌, length, slice_index}
use Rattle.gcm_seal.specs.Horner.{horner}
use Rattle.gcm_seal.proofs.hash_key.table.Given as goal

abbrev pub invariant-entries : goal.invariant-entries
invariant-entries l = record {
  len : length l.products ≡ 16;
  done : (j : ℕ) → j < l.n → slice_index l.products j ≡ horner j l.h 4;
}
