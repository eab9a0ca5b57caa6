-- The rounds on four words are the rounds on bytes.
use Rattle.std.proofs.Common.{◌≡◌, ℕ, zero, suc, ◌+◌, ◌-◌, ◌*◌, ◌<◌, ◌≤◌, List, [], ◌∷◌, ◌++◌, arith, sym, ap, ap₂, ◌∙◌, bit_xor, slice_index, length, take, drop, drop-cons, add-one, refl}
use Rattle.std.proofs.lemmas.List.{get_or-take, take_all, take-take, take-append-drop, drop-take}
use Rattle.std.specs.Int.{to_be_bytes, w32}
use Rattle.aes_core.specs.Aes.{mix_columns, shift_rows, sub_bytes, xor_bytes, rounds, cipher_with, key_words, round_key, cipher}
use Rattle.aes_core.specs.Words.{state_bytes}
use Rattle.aes_core.proofs.ColumnLemmas.{bytes_xor, IsColumn, IsLastColumn}

-- the first AddRoundKey
pub rounds_first : (w : List ℕ) (a b c d : ℕ)
    → state_bytes (bit_xor a (slice_index w 0)) (bit_xor b (slice_index w 1))
    (bit_xor c (slice_index w 2)) (bit_xor d (slice_index w 3))
    ≡ rounds w (state_bytes a b c d) 0
unfolding rounds
rounds_first w a b c d =
    λ i. bytes_xor a (slice_index w 0) i ++ bytes_xor b (slice_index w 1) i
    ++ bytes_xor c (slice_index w 2) i ++ bytes_xor d (slice_index w 3) i

-- one more round with MixColumns
pub rounds_next : (w block : List ℕ) (r a b c d e f g h : ℕ) → state_bytes a b c d ≡ rounds w block r
    → IsColumn e a b c d (slice_index w (4 * (r + 1)))
    → IsColumn f b c d a (slice_index w (4 * (r + 1) + 1))
    → IsColumn g c d a b (slice_index w (4 * (r + 1) + 2))
    → IsColumn h d a b c (slice_index w (4 * (r + 1) + 3))
    → state_bytes e f g h ≡ rounds w block (r + 1)
unfolding rounds
rounds_next w block r a b c d e f g h held ce cf cg ch =
    rw (add-one, ← held) (λ i. ce i ++ cf i ++ cg i ++ ch i)

-- the last round
pub rounds_last : (w block : List ℕ) (nr r a b c d e f g h : ℕ) → r ≡ nr - 1
    → state_bytes a b c d ≡ rounds w block r
    → IsLastColumn e a b c d (slice_index w (4 * nr))
    → IsLastColumn f b c d a (slice_index w (4 * nr + 1))
    → IsLastColumn g c d a b (slice_index w (4 * nr + 2))
    → IsLastColumn h d a b c (slice_index w (4 * nr + 3))
    → state_bytes e f g h ≡ cipher_with w nr block
unfolding cipher_with
rounds_last w block nr r a b c d e f g h er held ce cf cg ch =
    rw (← er, ← held) (λ i. ce i ++ cf i ++ cg i ++ ch i)

-- words after the schedule do not count

round_key_take : (n r : ℕ) (ws : List ℕ) → 4 * r + 3 < n → round_key (take n ws) r ≡ round_key ws r
round_key_take n r ws h =
    rw (
      get_or-take n ws (4 * r) 0 (omega arith),
      get_or-take n ws (4 * r + 1) 0 (omega arith),
      get_or-take n ws (4 * r + 2) 0 (omega arith),
      get_or-take n ws (4 * r + 3) 0 (omega arith),
    ) refl

rounds_take : (n : ℕ) (ws block : List ℕ) (r : ℕ) → 4 * r + 3 < n
    → rounds (take n ws) block r ≡ rounds ws block r
unfolding rounds
rounds_take n ws block zero h = ap (xor_bytes block) (round_key_take n 0 ws h)
rounds_take n ws block (suc r) h =
    ap₂ (λ (s k : List ℕ). xor_bytes (mix_columns (shift_rows (sub_bytes s))) k)
    (rounds_take n ws block r (omega arith)) (round_key_take n (r + 1) ws (omega arith))

cipher_with_take : (n nr : ℕ) (ws block : List ℕ) → 4 * nr + 3 < n
    → cipher_with (take n ws) nr block ≡ cipher_with ws nr block
unfolding cipher_with
cipher_with_take n nr ws block h =
    ap₂ (λ (s k : List ℕ). xor_bytes (shift_rows (sub_bytes s)) k)
    (rounds_take n ws block (nr - 1) (omega arith)) (round_key_take n nr ws h)

-- the rounds with the words of a key's schedule are the cipher under the key
pub cipher_from_words : (nk nr : ℕ) (words key block : List ℕ)
    → take (4 * (nr + 1)) words ≡ key_words nk key (4 * (nr + 1))
    → cipher_with words nr block ≡ cipher nk nr key block
unfolding cipher
cipher_from_words nk nr words key block held =
    sym (cipher_with_take (4 * (nr + 1)) nr words block (omega arith))
    ∙ ap (λ (w : List ℕ). cipher_with w nr block) held

-- a part of a list, cut at a place
pub take_part : (d : List ℕ) (a m : ℕ) → take (a + m) d ≡ take a d ++ take m (drop a d)
take_part d a m =
    let whole = take-append-drop a (take (a + m) d) in
    sym (rw (take-take a (a + m) d (omega arith), drop-take a m d) at whole)

-- n elements from i on, one by one
abbrev pub listed : ℕ → ℕ → List ℕ → List ℕ
listed zero i xs = []
listed (suc n) i xs = slice_index xs i ∷ listed n (i + 1) xs

pub taken_listed : (n i : ℕ) (xs : List ℕ) → i + n ≤ length xs → take n (drop i xs) ≡ listed n i xs
taken_listed zero i xs h = refl
taken_listed (suc n) i xs h =
    let e : suc i ≡ i + 1 = omega arith in
    ap (take (suc n)) (drop-cons xs i 0 (omega arith))
    ∙ ap (λ (l : List ℕ). slice_index xs i ∷ l)
    (ap (λ (k : ℕ). take n (drop k xs)) e ∙ taken_listed n (i + 1) xs (omega arith))

-- four words' bytes, one by one, are the words' bytes
pub stored : (e f g h : ℕ) (r0 r1 r2 r3 : List ℕ) → r0 ≡ to_be_bytes w32 e → r1 ≡ to_be_bytes w32 f
    → r2 ≡ to_be_bytes w32 g → r3 ≡ to_be_bytes w32 h
    → listed 4 0 r0 ++ listed 4 0 r1 ++ listed 4 0 r2 ++ listed 4 0 r3 ≡ state_bytes e f g h
stored e f g h r0 r1 r2 r3 e0 e1 e2 e3 = rw (e0, e1, e2, e3) refl

-- a block loaded as four words
pub loaded : (a b c d : ℕ) (block : List ℕ) → length block ≡ 16
    → to_be_bytes w32 a ≡ listed 4 0 block → to_be_bytes w32 b ≡ listed 4 4 block
    → to_be_bytes w32 c ≡ listed 4 8 block → to_be_bytes w32 d ≡ listed 4 12 block
    → state_bytes a b c d ≡ block
loaded a b c d block len b0 b1 b2 b3 =
    (λ i. b0 i ++ b1 i ++ b2 i ++ b3 i) ∙ sym (taken_listed 16 0 block (omega arith))
    ∙ take_all 16 block (omega arith)
