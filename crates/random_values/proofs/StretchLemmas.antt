-- Words that are drawn one after another are stretches.
use Rattle.std.proofs.Common.{◌≡◌, ℕ, zero, suc, ◌+◌, ◌*◌, ◌<◌, ◌%◌, ◌^◌, List, [], ◌++◌, ◌/◌, length, append-nil, refl, sym, ◌∙◌, arith}
use Rattle.std.specs.Prelude.{take}
use Rattle.std.specs.Int.{w32, to_le_bytes}
use Rattle.std.proofs.Math.Nat.{mod-add-mod, mod-eq_of_lt}
use Rattle.std.proofs.lemmas.List.{length-append, take_all, append_assoc}
use Rattle.rand_core.specs.Steps.{word_bytes, fill_via_u32}
use Rattle.rand_chacha.specs.ChaCha.{ChaCha, word_at, next_word}
use Rattle.random_values.specs.Stretches.{Place, moved, stretch}

-- the generator after so many words
abbrev after : List ℕ → ℕ → ℕ → ChaCha
after key position words = record { key = key; stream = 0; word_pos = (position + words) % 2 ^ 68 }

-- so many words are the stretch, and the generator stands behind it
words_drawn : (key : List ℕ) (position : ℕ) (words : ℕ) → position < 2 ^ 68
    → word_bytes (to_le_bytes w32) (next_word 10) words (record { key = key; stream = 0; word_pos = position })
    ≡ (stretch key position words, after key position words)
unfolding word_bytes stretch
words_drawn key position zero below =
    let none : position + 0 ≡ position = omega arith in
    let same : position ≡ (position + 0) % 2 ^ 68 = rw none (sym (mod-eq_of_lt below)) in
    λ i. ([], record { key = key; stream = 0; word_pos = same i })
words_drawn key position (suc words) below =
    let before = words_drawn key position words below in
    let more : position + suc words ≡ position + words + 1 = omega arith in
    let next : ((position + words) % 2 ^ 68 + 1) % 2 ^ 68 ≡ (position + suc words) % 2 ^ 68 =
    rw more (mod-add-mod (position + words) (2 ^ 68) 1) in
    rw before (λ i. (stretch key position (suc words), record { key = key; stream = 0; word_pos = next i }))

-- a word has four bytes
length-stretch : (key : List ℕ) (position words : ℕ) → length (stretch key position words) ≡ 4 * words
unfolding stretch
length-stretch key position zero = refl
length-stretch key position (suc words) =
    let before = length-stretch key position words in
    rw (length-append (stretch key position words) (to_le_bytes w32 (word_at 10 key 0 ((position + words) % 2 ^ 68))))
    (omega (arith, before))

-- The bytes that fill a buffer of so many words.
pub filled : (key : List ℕ) (position words : ℕ) → position < 2 ^ 68
    → fill_via_u32 (next_word 10) (4 * words) (record { key = key; stream = 0; word_pos = position })
    ≡ (stretch key position words, after key position words)
filled key position words below =
    let count : (4 * words + 3) / 4 ≡ words = omega arith in
    let all : take (4 * words) (stretch key position words) ≡ stretch key position words =
    take_all (4 * words) (stretch key position words) (omega (arith, length-stretch key position words)) in
    rw (count, words_drawn key position words below) (λ i. (all i, after key position words))

-- The same of a generator of stream 0, in parts.
pub filled_by : (g after_it : ChaCha) (words count : ℕ) (bytes : List ℕ) → g.stream ≡ 0 → g.word_pos < 2 ^ 68
    → count ≡ 4 * words → (bytes, after_it) ≡ fill_via_u32 (next_word 10) count g
    → (bytes ≡ stretch g.key g.word_pos words) × (after_it ≡ record g { word_pos = (g.word_pos + words) % 2 ^ 68 })
filled_by g after_it words count bytes stream below whole made =
    let here : g ≡ record { key = g.key; stream = 0; word_pos = g.word_pos } = λ i. record g { stream = stream i } in
    let all : (bytes, after_it) ≡ (stretch g.key g.word_pos words, after g.key g.word_pos words) =
    made ∙ (λ i. fill_via_u32 (next_word 10) (whole i) (here i)) ∙ filled g.key g.word_pos words below in
    let there : after g.key g.word_pos words ≡ record g { word_pos = (g.word_pos + words) % 2 ^ 68 } =
    λ i. record g { stream = sym stream i; word_pos = (g.word_pos + words) % 2 ^ 68 } in
    ((λ i. (all i).0), (λ i. (all i).1) ∙ there)

-- a stretch and then the next
pub stretched : (key : List ℕ) (position one two : ℕ)
    → stretch key position (one + two) ≡ stretch key position one ++ stretch key (position + one) two
unfolding stretch
stretched key position one zero =
    let none : one + 0 ≡ one = omega arith in rw none (sym (append-nil (stretch key position one)))
stretched key position one (suc two) =
    let word : ℕ → List ℕ = λ at. to_le_bytes w32 (word_at 10 key 0 (at % 2 ^ 68)) in
    let more : one + suc two ≡ suc (one + two) = omega arith in
    let at : position + (one + two) ≡ position + one + two = omega arith in
    rw (more, stretched key position one two, at)
    (append_assoc (stretch key position one) (stretch key (position + one) two) (word (position + one + two)))

-- some words and then more
pub moved_on : (place : Place) (one two : ℕ) → moved (moved place one) two ≡ moved place (one + two)
moved_on place one two =
    let both : place.position + (one + two) ≡ place.position + one + two = omega arith in
    let on : ((place.position + one) % 2 ^ 68 + two) % 2 ^ 68 ≡ (place.position + (one + two)) % 2 ^ 68 =
    rw both (mod-add-mod (place.position + one) (2 ^ 68) two) in
    λ i. record place { position = on i }
