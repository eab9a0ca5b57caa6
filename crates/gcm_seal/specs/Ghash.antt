-- GHASH (SP 800-38D, 6.4) on lists of bytes, and what GCM hashes (7.1, step 5).
use Rattle.std.specs.Prelude.{ℕ, zero, suc, ◌-◌, ◌*◌, ◌/◌, ◌%◌, List, ◌++◌, length, take, drop, replicate, bit_xor}
use Rattle.std.specs.Int.{w64, w128, from_be_bytes, to_be_bytes}
use Rattle.gcm_seal.specs.Field128.{product}

-- block i of some bytes, as a number
abbrev pub block_at : List ℕ → ℕ → ℕ
block_at m i = from_be_bytes w128 (take 16 (drop (16 * i) m))

-- Y n, after n blocks of the bytes m, from Y 0 = y
unfoldable pub hash_from : ℕ → ℕ → List ℕ → ℕ → ℕ
hash_from h y m zero = y
hash_from h y m (suc n) = product (bit_xor (hash_from h y m n) (block_at m n)) h

-- GHASH under the hash key h of bytes that make whole blocks
unfoldable pub ghash : ℕ → List ℕ → ℕ
ghash h m = hash_from h 0 m (length m / 16)

-- bytes filled up with zeros to whole blocks
unfoldable pub filled : List ℕ → List ℕ
filled m = m ++ replicate ((16 - length m % 16) % 16) 0

-- the numbers of bits of associated data and ciphertext, as a block
abbrev pub lengths_block : List ℕ → List ℕ → List ℕ
lengths_block aad text = to_be_bytes w64 (8 * length aad) ++ to_be_bytes w64 (8 * length text)

-- what GHASH takes in
unfoldable pub hashed : List ℕ → List ℕ → List ℕ
hashed aad text = filled aad ++ filled text ++ lengths_block aad text
