-- scryptROMix (RFC 7914, section 5) on a list of words, each of four bytes, low byte first.
use Rattle.std.specs.Prelude.{ℕ, zero, suc, ◌+◌, ◌-◌, ◌*◌, ◌%◌, ◌^◌, List, [], ◌∷◌, drop}
use Rattle.scrypt_kdf.specs.Lists.{xor_words}
use Rattle.scrypt_kdf.specs.BlockMix.{block_mix}

-- the number whose words these are, the lowest first
abbrev pub number_of : List ℕ → ℕ
number_of [] = 0
number_of (w ∷ ws) = w + 2 ^ 32 * number_of ws

-- Integerify: the last block of 64 bytes as a number, low byte first
abbrev pub integerify : ℕ → List ℕ → ℕ
integerify r x = number_of (drop (16 * (2 * r - 1)) x)

-- V i (step 2)
unfoldable pub filled : ℕ → List ℕ → ℕ → List ℕ
filled r b zero = b
filled r b (suc i) = block_mix r (filled r b i)

-- one turn of step 3
unfoldable pub turned : ℕ → List ℕ → ℕ → List ℕ → List ℕ
turned r b n x = block_mix r (xor_words x (filled r b (integerify r x % n)))

-- X after i turns of step 3
unfoldable pub turned_by : ℕ → List ℕ → ℕ → ℕ → List ℕ
turned_by r b n zero = filled r b n
turned_by r b n (suc i) = turned r b n (turned_by r b n i)

-- X after n turns
unfoldable pub romix : ℕ → List ℕ → ℕ → List ℕ
romix r b n = turned_by r b n n
