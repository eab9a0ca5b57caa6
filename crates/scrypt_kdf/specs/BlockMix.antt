-- scryptBlockMix (RFC 7914, section 4) on a list of words, each of four bytes, low byte first.
use Rattle.std.specs.Prelude.{ℕ, zero, suc, ◌+◌, ◌-◌, ◌*◌, List, ◌++◌, take, drop}
use Rattle.scrypt_kdf.specs.Lists.{joined, xor_words}
use Rattle.scrypt_kdf.specs.Salsa.{salsa}

-- block i of 16 words
abbrev pub block : List ℕ → ℕ → List ℕ
block b i = take 16 (drop (16 * i) b)

-- X after i blocks of b (steps 1 and 2); it begins as the last block
unfoldable pub chained : ℕ → List ℕ → ℕ → List ℕ
chained r b zero = block b (2 * r - 1)
chained r b (suc i) = salsa (xor_words (chained r b i) (block b i))

-- Y 0, Y 2, … and then Y 1, Y 3, … (step 3), where Y i is X after block i
unfoldable pub block_mix : ℕ → List ℕ → List ℕ
block_mix r b = joined (λ i. chained r b (2 * i + 1)) r ++ joined (λ i. chained r b (2 * i + 2)) r
