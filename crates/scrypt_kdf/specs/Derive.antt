-- The keys that are derived of secrets.
use Rattle.std.specs.Prelude.{ℕ, ◌^◌, List, take}
use Rattle.scrypt_kdf.specs.Scrypt.{scrypt}

-- 64 bytes of scrypt with N = 2^cost, r = 8 and p = 1
unfoldable pub derive : List ℕ → List ℕ → ℕ → List ℕ
derive secret salt cost = scrypt secret salt (2 ^ cost) 8 1 64

-- the first 32 of them
unfoldable pub derive_32 : List ℕ → List ℕ → ℕ → List ℕ
derive_32 secret salt cost = take 32 (derive secret salt cost)
