-- Stretches of the key stream of ChaCha20 with the nonce 0.
use Rattle.std.specs.Prelude.{ℕ, zero, suc, ◌+◌, ◌%◌, ◌^◌, List, [], ◌++◌}
use Rattle.std.specs.Int.{w32, to_le_bytes}
use Rattle.rand_chacha.specs.ChaCha.{word_at, key_of}

-- a key of eight words, and the place of the next word of its stream, of which there are 2^68
pub record Place : Type 0 where
  pub key : List ℕ
  pub position : ℕ

-- the start of the stream under a key of 32 bytes
abbrev pub begun : List ℕ → Place
begun key = record { key = key_of key; position = 0 }

-- the place after so many words
abbrev pub moved : Place → ℕ → Place
moved place words = record place { position = (place.position + words) % 2 ^ 68 }

-- so many words of the stream from a place on, each in little-endian order
unfoldable pub stretch : List ℕ → ℕ → ℕ → List ℕ
stretch key position zero = []
stretch key position (suc words) =
    stretch key position words ++ to_le_bytes w32 (word_at 10 key 0 ((position + words) % 2 ^ 68))
