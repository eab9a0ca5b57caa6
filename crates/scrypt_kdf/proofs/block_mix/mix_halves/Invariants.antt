use Rattle.std.proofs.Common.{◌≡◌, ◌+◌, ◌*◌, length, take}
use Rattle.scrypt_kdf.specs.Lists.{joined}
use Rattle.scrypt_kdf.specs.BlockMix.{chained}
use Rattle.scrypt_kdf.specs.Lanes.{in_order}
use Rattle.scrypt_kdf.proofs.block_mix.mix_halves.Given as goal

-- X has gone through 2 i blocks, of which both halves have theirs
abbrev pub invariant-pairs : goal.invariant-pairs
invariant-pairs l = record {
  evens_len : length l.evens ≡ 16 * l.r;
  odds_len : length l.odds ≡ 16 * l.r;
  x : in_order l.x ≡ chained l.r l.b (2 * l.i);
  evens : take (16 * l.i) l.evens ≡ joined (λ i. chained l.r l.b (2 * i + 1)) l.i;
  odds : take (16 * l.i) l.odds ≡ joined (λ i. chained l.r l.b (2 * i + 2)) l.i;
}
