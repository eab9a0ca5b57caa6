-- Counter mode (SP 800-38D, 6.2 and 6.5) over AES with a key of nk words and nr rounds.
use Rattle.std.specs.Prelude.{ℕ, zero, suc, ◌+◌, ◌/◌, ◌%◌, ◌^◌, List, [], ◌++◌, length, take, drop}
use Rattle.std.specs.Int.{w32, from_be_bytes, to_be_bytes}
use Rattle.aes_core.specs.Aes.{xor_bytes, cipher}

-- inc32: the last four bytes as a number, plus one; the carry out of them is lost (6.2)
abbrev pub inc32 : List ℕ → List ℕ
inc32 b = take 12 b ++ to_be_bytes w32 ((from_be_bytes w32 (drop 12 b) + 1) % 2 ^ 32)

-- counter block n, from 0
unfoldable pub counter : List ℕ → ℕ → List ℕ
counter first zero = first
counter first (suc n) = inc32 (counter first n)

-- the encryptions of the first n counter blocks, joined
unfoldable pub key_stream : ℕ → ℕ → List ℕ → List ℕ → ℕ → List ℕ
key_stream nk nr key first zero = []
key_stream nk nr key first (suc n) =
    key_stream nk nr key first n ++ cipher nk nr key (counter first n)

-- GCTR (6.5)
unfoldable pub gctr : ℕ → ℕ → List ℕ → List ℕ → List ℕ → List ℕ
gctr nk nr key first text = xor_bytes text (key_stream nk nr key first ((length text + 15) / 16))
