-- The key schedule, word by word.
use Rattle.std.proofs.Common.{◌≡◌, ℕ, ◌+◌, ◌-◌, ◌*◌, ◌<◌, ◌≤◌, List, [], ◌∷◌, ◌++◌, refl, arith, sym, ap, ap₂, ◌∙◌, bit_xor, slice_index, slice_set, length, take, drop, add-one}
use Rattle.std.proofs.lemmas.List.{take_more_set, get_or-take}
use Rattle.std.proofs.lemmas.List.Concat.{flat_map-append}
use Rattle.std.proofs.lemmas.Bool.{lt-ltb, le-ltb}
use Rattle.std.specs.List.{flat_map}
use Rattle.std.specs.Int.{to_be_bytes, w32}
use Rattle.aes_core.proofs.RoundLemmas.{taken_listed, take_part}
use Rattle.aes_core.specs.Aes.{added, key_words, next_word, word_at}

-- a word of the key itself
pub key_words_first : (nk : ℕ) (key words : List ℕ) (i n : ℕ) → i < length words → i < nk
    → take i words ≡ key_words nk key i → n ≡ word_at key (4 * i)
    → take (i + 1) (slice_set words i n) ≡ key_words nk key (i + 1)
unfolding key_words
key_words_first nk key words i n fits low held e =
    let next : next_word nk key (key_words nk key i) i ≡ n = rw (lt-ltb i nk low) (sym e) in
    take_more_set words i n fits ∙ rw (add-one, next, held) refl

-- a word made of earlier ones
pub key_words_more : (nk : ℕ) (key words : List ℕ) (i n : ℕ) → i < length words → 0 < nk → nk ≤ i
    → take i words ≡ key_words nk key i
    → n ≡ bit_xor (slice_index words (i - nk)) (added nk (slice_index words (i - 1)) i)
    → take (i + 1) (slice_set words i n) ≡ key_words nk key (i + 1)
unfolding key_words
key_words_more nk key words i n fits pos high held e =
    let known = key_words nk key i in
    let before : slice_index known (i - 1) ≡ slice_index words (i - 1) =
    rw (← held) (get_or-take i words (i - 1) 0 (omega arith)) in
    let far : slice_index known (i - nk) ≡ slice_index words (i - nk) =
    rw (← held) (get_or-take i words (i - nk) 0 (omega arith)) in
    let next : next_word nk key known i ≡ n = rw (le-ltb i nk high, before, far) (sym e) in
    take_more_set words i n fits ∙ rw (add-one, next, held) refl

-- the four bytes at a place, one by one
taken_four : (xs : List ℕ) (i : ℕ) → i + 4 ≤ length xs
    → slice_index xs i ∷ slice_index xs (i + 1) ∷ slice_index xs (i + 2) ∷ slice_index xs (i + 3) ∷ []
    ≡ take 4 (drop i xs)
taken_four xs i h =
    let e2 : i + 1 + 1 ≡ i + 2 = omega arith in
    let e3 : i + 2 + 1 ≡ i + 3 = omega arith in
    sym (rw (e2, e3) at (taken_listed 4 i xs h))

-- one more word of the key, as its bytes
pub key_of_first : (key words : List ℕ) (i n : ℕ) → i < length words → 4 * i + 4 ≤ length key
    → flat_map (to_be_bytes w32) (take i words) ≡ take (4 * i) key
    → to_be_bytes w32 n ≡ slice_index key (4 * i) ∷ slice_index key (4 * i + 1)
    ∷ slice_index key (4 * i + 2) ∷ slice_index key (4 * i + 3) ∷ []
    → flat_map (to_be_bytes w32) (take (i + 1) (slice_set words i n)) ≡ take (4 * (i + 1)) key
key_of_first key words i n fits whole held e =
    let next : 4 * (i + 1) ≡ 4 * i + 4 = omega arith in
    let word : to_be_bytes w32 n ≡ take 4 (drop (4 * i) key) =
    e ∙ taken_four key (4 * i) whole in
    ap (flat_map (to_be_bytes w32)) (take_more_set words i n fits)
    ∙ flat_map-append (to_be_bytes w32) (take i words) (n ∷ [])
    ∙ ap₂ (λ (xs ys : List ℕ). xs ++ ys) held word
    ∙ sym (ap (λ (k : ℕ). take k key) next ∙ take_part key (4 * i) 4)
