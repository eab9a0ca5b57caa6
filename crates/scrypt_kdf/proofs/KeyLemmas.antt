-- What callers may cite of derived keys.
use Rattle.std.proofs.Common.{◌≡◌, ℕ, ◌^◌, List, arith, length}
use Rattle.std.proofs.lemmas.List.{length-take-le}
use Rattle.hmac_sha.proofs.BlockLemmas.{length-pbkdf2_one}
use Rattle.scrypt_kdf.specs.Scrypt.{scrypt}
use Rattle.scrypt_kdf.specs.Derive.{derive, derive_32}

-- scrypt gives as many bytes as are asked for
pub length-scrypt : (password salt : List ℕ) (n r p len : ℕ) → length (scrypt password salt n r p len) ≡ len
unfolding scrypt
length-scrypt password salt n r p len = length-pbkdf2_one password _ len

pub length-derive : (secret salt : List ℕ) (cost : ℕ) → length (derive secret salt cost) ≡ 64
unfolding derive
length-derive secret salt cost = length-scrypt secret salt (2 ^ cost) 8 1 64

pub length-derive_32 : (secret salt : List ℕ) (cost : ℕ) → length (derive_32 secret salt cost) ≡ 32
unfolding derive_32
length-derive_32 secret salt cost = length-take-le 32 (derive secret salt cost) (omega (arith, length-derive secret salt cost))
