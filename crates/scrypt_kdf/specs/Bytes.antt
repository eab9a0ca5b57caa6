-- Words of four bytes, low byte first.
use Rattle.std.specs.Prelude.{ℕ, ◌*◌, List, [], ◌∷◌, take, drop}
use Rattle.std.specs.Int.{w32, from_le_bytes, to_le_bytes}
use Rattle.std.specs.List.{flat_map}
use Rattle.scrypt_kdf.specs.Lists.{joined}

-- the word at place i of the bytes
abbrev pub word_at : List ℕ → ℕ → ℕ
word_at bytes i = from_le_bytes w32 (take 4 (drop (4 * i) bytes))

-- the first n words of the bytes
abbrev pub words_of : List ℕ → ℕ → List ℕ
words_of bytes n = joined (λ i. word_at bytes i ∷ []) n

-- the bytes of the words
abbrev pub bytes_of : List ℕ → List ℕ
bytes_of words = flat_map (to_le_bytes w32) words
