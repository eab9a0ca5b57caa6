-- GCM with an IV of 12 bytes (SP 800-38D, 7.1 and 7.2), over AES with a key of nk words and nr rounds.
use Rattle.std.specs.Prelude.{ℕ, List, [], ◌∷◌, ◌++◌, replicate}
use Rattle.std.specs.Int.{w128, from_be_bytes, to_be_bytes}
use Rattle.aes_core.specs.Aes.{cipher}
use Rattle.aes_core.specs.Counter.{inc32, gctr}
use Rattle.gcm_seal.specs.Ghash.{ghash, hashed}

-- H: the encryption of zeros (7.1, step 1)
unfoldable pub hash_key : ℕ → ℕ → List ℕ → ℕ
hash_key nk nr key = from_be_bytes w128 (cipher nk nr key (replicate 16 0))

-- J 0 (7.1, step 2)
abbrev pub first_block : List ℕ → List ℕ
first_block iv = iv ++ 0 ∷ 0 ∷ 0 ∷ 1 ∷ []

-- the ciphertext of a text (7.1, step 3)
unfoldable pub encrypted : ℕ → ℕ → List ℕ → List ℕ → List ℕ → List ℕ
encrypted nk nr key iv text = gctr nk nr key (inc32 (first_block iv)) text

-- the text of a ciphertext (7.2, step 5)
unfoldable pub decrypted : ℕ → ℕ → List ℕ → List ℕ → List ℕ → List ℕ
decrypted nk nr key iv text = gctr nk nr key (inc32 (first_block iv)) text

-- the tag of associated data and a ciphertext (7.1, steps 4 to 6)
unfoldable pub tag_of : ℕ → ℕ → List ℕ → List ℕ → List ℕ → List ℕ → List ℕ
tag_of nk nr key iv aad text =
    gctr nk nr key (first_block iv) (to_be_bytes w128 (ghash (hash_key nk nr key) (hashed aad text)))
