-- The sizes of a ciphertext and of a tag.
use Rattle.std.proofs.Common.{◌≡◌, ℕ, List, length}
use Rattle.std.specs.Int.{w128, to_be_bytes}
use Rattle.aes_core.specs.Counter.{inc32}
use Rattle.aes_core.proofs.StreamLemmas.{length-gctr}
use Rattle.gcm_seal.specs.Ghash.{ghash, hashed}
use Rattle.gcm_seal.specs.Gcm.{first_block, hash_key, encrypted, tag_of}

-- a ciphertext is as long as its text
pub length-encrypted : (nk nr : ℕ) (key iv text : List ℕ) → length (encrypted nk nr key iv text) ≡ length text
unfolding encrypted
length-encrypted nk nr key iv text = length-gctr nk nr key (inc32 (first_block iv)) text

-- a tag has 16 bytes
pub length-tag_of : (nk nr : ℕ) (key iv extra text : List ℕ) → length (tag_of nk nr key iv extra text) ≡ 16
unfolding tag_of
length-tag_of nk nr key iv extra text =
    length-gctr nk nr key (first_block iv) (to_be_bytes w128 (ghash (hash_key nk nr key) (hashed extra text)))
