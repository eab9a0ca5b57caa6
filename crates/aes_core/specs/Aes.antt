-- AES (FIPS 197, section 5) on lists of bytes. A state is 16 bytes, column after column. A word is
-- four bytes, read high byte first.
use Rattle.std.specs.Prelude.{◌≡◌, ℕ, zero, suc, ◌+◌, ◌-◌, ◌*◌, ◌/◌, ◌%◌, ◌^◌, ◌≤◌, List, [], ◌∷◌, ◌++◌, map, bit_xor, slice_index, if◌then◌else◌, nat_lt, ◌==◌, ◌&&◌}
use Rattle.std.specs.Int.{w32, from_be_bytes, to_be_bytes, rotate_left}
use Rattle.std.specs.Simd.Lanes.{zip2}
use Rattle.aes_core.specs.Field.{product, s_box, power}

-- a key of nk words has nr rounds: 4 and 10, 6 and 12, or 8 and 14 (5, table 3)
abbrev pub IsKeySize : ℕ → ℕ → Type 0
IsKeySize nk nr = (nr ≡ nk + 6) × (4 ≤ nk) × (nk ≤ 8) × (nk % 2 ≡ 0)

-- the word at byte i of a list
abbrev pub word_at : List ℕ → ℕ → ℕ
word_at b i = from_be_bytes w32
    (slice_index b i ∷ slice_index b (i + 1) ∷ slice_index b (i + 2) ∷ slice_index b (i + 3) ∷ [])

-- bytes under xor, as far as both lists go
abbrev pub xor_bytes : List ℕ → List ℕ → List ℕ
xor_bytes xs ys = zip2 bit_xor xs ys

-- SubBytes (5.1.1)
abbrev pub sub_bytes : List ℕ → List ℕ
sub_bytes s = map s_box s

-- ShiftRows (5.1.2): row r moves r columns to the left
abbrev pub shift_rows : List ℕ → List ℕ
shift_rows s =
    slice_index s 0 ∷ slice_index s 5 ∷ slice_index s 10 ∷ slice_index s 15
    ∷ slice_index s 4 ∷ slice_index s 9 ∷ slice_index s 14 ∷ slice_index s 3
    ∷ slice_index s 8 ∷ slice_index s 13 ∷ slice_index s 2 ∷ slice_index s 7
    ∷ slice_index s 12 ∷ slice_index s 1 ∷ slice_index s 6 ∷ slice_index s 11 ∷ []

abbrev xor_of_4 : ℕ → ℕ → ℕ → ℕ → ℕ
xor_of_4 a b c d = bit_xor (bit_xor (bit_xor a b) c) d

-- one column of MixColumns (5.1.3)
abbrev pub mix_column : ℕ → ℕ → ℕ → ℕ → List ℕ
mix_column a b c d =
    xor_of_4 (product 2 a) (product 3 b) c d
    ∷ xor_of_4 a (product 2 b) (product 3 c) d
    ∷ xor_of_4 a b (product 2 c) (product 3 d)
    ∷ xor_of_4 (product 3 a) b c (product 2 d) ∷ []

-- MixColumns (5.1.3)
abbrev pub mix_columns : List ℕ → List ℕ
mix_columns s =
    mix_column (slice_index s 0) (slice_index s 1) (slice_index s 2) (slice_index s 3)
    ++ mix_column (slice_index s 4) (slice_index s 5) (slice_index s 6) (slice_index s 7)
    ++ mix_column (slice_index s 8) (slice_index s 9) (slice_index s 10) (slice_index s 11)
    ++ mix_column (slice_index s 12) (slice_index s 13) (slice_index s 14) (slice_index s 15)

-- round key r of the words w, as bytes
abbrev pub round_key : List ℕ → ℕ → List ℕ
round_key w r =
    to_be_bytes w32 (slice_index w (4 * r)) ++ to_be_bytes w32 (slice_index w (4 * r + 1))
    ++ to_be_bytes w32 (slice_index w (4 * r + 2)) ++ to_be_bytes w32 (slice_index w (4 * r + 3))

-- AddRoundKey (5.1.4)
abbrev pub add_round_key : List ℕ → List ℕ → ℕ → List ℕ
add_round_key s w r = xor_bytes s (round_key w r)

-- the state after the first AddRoundKey and r rounds with MixColumns (5.1)
unfoldable pub rounds : List ℕ → List ℕ → ℕ → List ℕ
rounds w block zero = add_round_key block w 0
rounds w block (suc r) =
    add_round_key (mix_columns (shift_rows (sub_bytes (rounds w block r)))) w (r + 1)

-- the cipher with the words w and nr rounds, of which the last has no MixColumns (5.1)
unfoldable pub cipher_with : List ℕ → ℕ → List ℕ → List ℕ
cipher_with w nr block = add_round_key (shift_rows (sub_bytes (rounds w block (nr - 1)))) w nr

-- SubWord (5.2)
abbrev pub sub_word : ℕ → ℕ
sub_word n = from_be_bytes w32 (map s_box (to_be_bytes w32 n))

-- round constant j, from 1: the byte x^(j-1), and three zeros (5.2)
abbrev pub round_constant : ℕ → ℕ
round_constant j = power 2 (j - 1) * 2 ^ 24

-- what word n adds to the word nk before it: the word before it, t. At a multiple of nk, t is
-- rotated and substituted and takes a round constant. With 8 words of key, t is also substituted
-- half way between (5.2)
abbrev pub added : ℕ → ℕ → ℕ → ℕ
added nk t n =
    if n % nk == 0 then bit_xor (sub_word (rotate_left w32 t 8)) (round_constant (n / nk))
    else if nat_lt 6 nk && (n % nk == 4) then sub_word t
    else t

-- word n, after the words w (5.2)
abbrev pub next_word : ℕ → List ℕ → List ℕ → ℕ → ℕ
next_word nk key w n =
    if nat_lt n nk then word_at key (4 * n)
    else bit_xor (slice_index w (n - nk)) (added nk (slice_index w (n - 1)) n)

-- the first n words of KeyExpansion of a key of nk words (5.2)
unfoldable pub key_words : ℕ → List ℕ → ℕ → List ℕ
key_words nk key zero = []
key_words nk key (suc n) = key_words nk key n ++ next_word nk key (key_words nk key n) n ∷ []

-- AES of a block, under a key of nk words with nr rounds (5.1)
unfoldable pub cipher : ℕ → ℕ → List ℕ → List ℕ → List ℕ
cipher nk nr key block = cipher_with (key_words nk key (4 * (nr + 1))) nr block
