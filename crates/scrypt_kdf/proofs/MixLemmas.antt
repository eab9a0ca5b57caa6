-- BlockMix and ROMix, turn by turn.
use Rattle.std.proofs.Common.{◌≡◌, ℕ, zero, suc, ◌+◌, ◌-◌, ◌*◌, ◌%◌, ◌^◌, ◌<◌, ◌≤◌, List, refl, arith, sym, ap, ◌∙◌, slice_index, length, take, drop, add-one, bit_xor, length-append, length-drop, drop-cons, pow-add}
use Rattle.std.proofs.lemmas.List.{length-take-le}
use Rattle.std.proofs.lemmas.Simd.{length-zip2}
use Rattle.std.proofs.lemmas.Nat.{mod_below}
use Rattle.std.proofs.Math.Nat.{add-mul-mod_self_left}
use Rattle.scrypt_kdf.specs.Salsa.{add32, double_rounds, row_round, salsa}
use Rattle.scrypt_kdf.specs.Lists.{xor_words, joined}
use Rattle.scrypt_kdf.specs.BlockMix.{block, chained, block_mix}
use Rattle.scrypt_kdf.specs.Romix.{number_of, integerify, filled, turned, turned_by}
use Rattle.scrypt_kdf.proofs.PartLemmas.{length-joined, joined_row}

-- ---- how many words each step gives

length-double_rounds : (x : List ℕ) → length (double_rounds 4 x) ≡ 16
unfolding double_rounds row_round
length-double_rounds x = refl

length-salsa : (x : List ℕ) → length x ≡ 16 → length (salsa x) ≡ 16
unfolding salsa
length-salsa x h =
    let rounds = length-double_rounds x in
    length-zip2 add32 (double_rounds 4 x) x (rounds ∙ sym h) ∙ rounds

length-block : (b : List ℕ) (i : ℕ) → 16 * i + 16 ≤ length b → length (block b i) ≡ 16
length-block b i h = length-take-le 16 (drop (16 * i) b) (omega (arith, length-drop (16 * i) b))

length-chained : (r : ℕ) (b : List ℕ) (i : ℕ) → 0 < r → length b ≡ 32 * r → i ≤ 2 * r
    → length (chained r b i) ≡ 16
unfolding chained
length-chained r b zero pos h le = length-block b (2 * r - 1) (omega arith)
length-chained r b (suc i) pos h le =
    let x : List ℕ = chained r b i in
    let before = length-chained r b i pos h (omega arith) in
    let part = length-block b i (omega arith) in
    length-salsa (xor_words x (block b i)) (length-zip2 bit_xor x (block b i) (before ∙ sym part) ∙ before)

pub length-block_mix : (r : ℕ) (b : List ℕ) → 0 < r → length b ≡ 32 * r → length (block_mix r b) ≡ 32 * r
unfolding block_mix
length-block_mix r b pos h =
    let even : ℕ → List ℕ = λ i. chained r b (2 * i + 1) in
    let odd : ℕ → List ℕ = λ i. chained r b (2 * i + 2) in
    let evens = length-joined even 16 r (λ i lt. length-chained r b (2 * i + 1) pos h (omega arith)) in
    let odds = length-joined odd 16 r (λ i lt. length-chained r b (2 * i + 2) pos h (omega arith)) in
    omega (arith, evens, odds, length-append (joined even r) (joined odd r))

pub length-filled : (r : ℕ) (b : List ℕ) (i : ℕ) → 0 < r → length b ≡ 32 * r → length (filled r b i) ≡ 32 * r
unfolding filled
length-filled r b zero pos h = h
length-filled r b (suc i) pos h = length-block_mix r (filled r b i) pos (length-filled r b i pos h)

-- ---- turns

-- X of BlockMix after one more block
pub chained_next : (r : ℕ) (b : List ℕ) (i j : ℕ) (x y z : List ℕ) → j ≡ i + 1 → x ≡ chained r b i
    → y ≡ xor_words x (block b i) → z ≡ salsa y → z ≡ chained r b j
unfolding chained
chained_next r b i j x y z ej ex ey ez = rw (ej, add-one, ez, ey, ex) refl

-- the next row of V
pub filled_next : (r : ℕ) (b : List ℕ) (i : ℕ) (x y : List ℕ) → x ≡ filled r b i → y ≡ block_mix r x
    → y ≡ filled r b (i + 1)
unfolding filled
filled_next r b i x y ex ey = rw (add-one, ey, ex) refl

-- the number of a block is its first word's, modulo a power of two up to 2^32
integerify_low : (r k n : ℕ) (x : List ℕ) → 0 < r → length x ≡ 32 * r → k ≤ 32 → n ≡ 2 ^ k
    → integerify r x % n ≡ slice_index x (32 * r - 16) % n
integerify_low r k n x pos h le en =
    let at : 16 * (2 * r - 1) ≡ 32 * r - 16 = omega arith in
    let parts = drop-cons x (32 * r - 16) 0 (omega arith) in
    let first : ℕ = slice_index x (32 * r - 16) in
    let rest : ℕ = number_of (drop (suc (32 * r - 16)) x) in
    let sum : 32 ≡ k + (32 - k) = omega arith in
    let split : 2 ^ 32 ≡ n * 2 ^ (32 - k) = rw en (ap (λ (j : ℕ). 2 ^ j) sum ∙ pow-add 2 k (32 - k)) in
    let whole : 2 ^ 32 * rest ≡ n * (2 ^ (32 - k) * rest) = ap (λ (m : ℕ). m * rest) split ∙ grind arith in
    rw (at, parts) (ap (λ (m : ℕ). (first + m) % n) whole ∙ add-mul-mod_self_left first n (2 ^ (32 - k) * rest))

-- X of ROMix after one more turn: the row is the one that the first word of its last block names
pub turned_next : (r k n i j w : ℕ) (b x z y rows row : List ℕ) → 0 < r → length b ≡ 32 * r
    → length x ≡ 32 * r → k ≤ 20 → n ≡ 2 ^ k → 0 < n → w ≡ 32 * r
    → rows ≡ joined (filled r b) n → x ≡ turned_by r b n i
    → j ≡ slice_index x (w - 16) % n → row ≡ take w (drop (w * j) rows)
    → z ≡ xor_words x row → y ≡ block_mix r z → y ≡ turned_by r b n (i + 1)
unfolding turned_by turned
turned_next r k n i j w b x z y rows row pos hb hx le en npos ew er ex ej erow ez ey =
    let index : j ≡ integerify r x % n = rw ew at ej ∙ sym (integerify_low r k n x pos hx (omega arith) en) in
    let below : j < n = rw ej (mod_below (slice_index x (w - 16)) n npos) in
    let found = joined_row (filled r b) (32 * r) n j (λ m. length-filled r b m pos hb) below in
    let picked : row ≡ filled r b j = rw (er, ew) at erow ∙ found in
    rw (add-one, ← ex, ey, ez, picked, index) refl
