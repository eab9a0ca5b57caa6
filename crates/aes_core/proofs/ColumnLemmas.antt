-- A column computed on words is the column of bytes.
use Rattle.std.proofs.Common.{◌≡◌, ℕ, ◌/◌, ◌%◌, ◌^◌, ◌<◌, List, [], ◌∷◌, refl, arith, ap, ap₂, ◌∙◌, bit_xor, bit_and, slice_index}
use Rattle.std.proofs.lemmas.Nat.{xor_shr, xor_mod, and_mask, be_bytes_4}
use Rattle.std.specs.Int.{byte_at, to_be_bytes, from_be_bytes, w32}
use Rattle.aes_core.specs.declared.tables.TheConstants.{T0, T1, T2, T3}
use Rattle.aes_core.specs.Field.{s_box}
use Rattle.aes_core.specs.Aes.{mix_column, xor_bytes}
use Rattle.aes_core.proofs.TableRules.{T0_rule, T1_rule, T2_rule, T3_rule}

byte_xor : (k x y : ℕ)
    → bit_xor x y / 2 ^ k % 256 ≡ bit_xor (x / 2 ^ k % 256) (y / 2 ^ k % 256)
byte_xor k x y = ap (λ (n : ℕ). n % 256) (xor_shr x y k) ∙ xor_mod (x / 2 ^ k) (y / 2 ^ k) 8

-- the bytes of a xor are the bytes under xor
pub bytes_xor : (x y : ℕ)
    → to_be_bytes w32 (bit_xor x y) ≡ xor_bytes (to_be_bytes w32 x) (to_be_bytes w32 y)
bytes_xor x y = rw (byte_xor 24 x y, byte_xor 16 x y, byte_xor 8 x y, xor_mod x y 8) refl

-- the word n is a column of a round over the words a, b, c and d, with key word k
abbrev pub IsColumn : ℕ → ℕ → ℕ → ℕ → ℕ → ℕ → Type 0
IsColumn n a b c d k = to_be_bytes w32 n ≡ xor_bytes
    (mix_column (s_box (byte_at 3 a)) (s_box (byte_at 2 b)) (s_box (byte_at 1 c)) (s_box (byte_at 0 d)))
    (to_be_bytes w32 k)

-- the same of the last round
abbrev pub IsLastColumn : ℕ → ℕ → ℕ → ℕ → ℕ → ℕ → Type 0
IsLastColumn n a b c d k = to_be_bytes w32 n ≡ xor_bytes
    (s_box (byte_at 3 a) ∷ s_box (byte_at 2 b) ∷ s_box (byte_at 1 c) ∷ s_box (byte_at 0 d) ∷ [])
    (to_be_bytes w32 k)

-- the xor of four table entries and a key word is a column
pub column_from_tables : (t0 t1 t2 t3 a b c d k : ℕ) → a < 2 ^ 32
    → t0 ≡ slice_index T0 (a / 16777216) → t1 ≡ slice_index T1 (bit_and (b / 65536) 255)
    → t2 ≡ slice_index T2 (bit_and (c / 256) 255) → t3 ≡ slice_index T3 (bit_and d 255)
    → IsColumn (bit_xor (bit_xor (bit_xor (bit_xor t0 t1) t2) t3) k) a b c d k
column_from_tables t0 t1 t2 t3 a b c d k h e0 e1 e2 e3 =
    let i0 : a / 16777216 ≡ byte_at 3 a = omega arith in
    let r0 = e0 ∙ ap (slice_index T0) i0 in
    let r1 = e1 ∙ ap (slice_index T1) (and_mask (b / 65536) 8) in
    let r2 = e2 ∙ ap (slice_index T2) (and_mask (c / 256) 8) in
    let r3 = e3 ∙ ap (slice_index T3) (and_mask d 8) in
    let b0 = ap (to_be_bytes w32) r0 ∙ T0_rule (byte_at 3 a) (omega arith) in
    let b1 = ap (to_be_bytes w32) r1 ∙ T1_rule (byte_at 2 b) (omega arith) in
    let b2 = ap (to_be_bytes w32) r2 ∙ T2_rule (byte_at 1 c) (omega arith) in
    let b3 = ap (to_be_bytes w32) r3 ∙ T3_rule (byte_at 0 d) (omega arith) in
    let x01 = bytes_xor t0 t1 ∙ ap₂ xor_bytes b0 b1 in
    let x02 = bytes_xor (bit_xor t0 t1) t2 ∙ ap₂ xor_bytes x01 b2 in
    let x03 = bytes_xor (bit_xor (bit_xor t0 t1) t2) t3 ∙ ap₂ xor_bytes x02 b3 in
    bytes_xor (bit_xor (bit_xor (bit_xor t0 t1) t2) t3) k
    ∙ ap (λ (z : List ℕ). xor_bytes z (to_be_bytes w32 k)) x03

-- the word of four substituted bytes, xor a key word, is a column of the last round
pub last_column_from_bytes : (p q r s a b c d k n : ℕ) → p < 256 → q < 256 → r < 256 → s < 256
    → p ≡ s_box (byte_at 3 a) → q ≡ s_box (byte_at 2 b) → r ≡ s_box (byte_at 1 c)
    → s ≡ s_box (byte_at 0 d) → n ≡ from_be_bytes w32 (p ∷ q ∷ r ∷ s ∷ [])
    → IsLastColumn (bit_xor n k) a b c d k
last_column_from_bytes p q r s a b c d k n fp fq fr fs ep eq er es en =
    let bytes = p ∷ q ∷ r ∷ s ∷ [] in
    let whole : to_be_bytes w32 n ≡ bytes = be_bytes_4 bytes n refl (search (arith)) en in
    bytes_xor n k
    ∙ ap (λ (z : List ℕ). xor_bytes z (to_be_bytes w32 k)) (whole ∙ (λ i. ep i ∷ eq i ∷ er i ∷ es i ∷ []))
