-- Horner's rule four bits at a time, by the tables.
use Rattle.std.proofs.Common.{◌≡◌, ℕ, zero, suc, ◌+◌, ◌*◌, ◌/◌, ◌%◌, ◌^◌, ◌<◌, inl, inr, refl, ◌∙◌, ap, ap₂, sym, arith, bit_xor, bit_and, slice_index, Bool, true, ◌&&◌, ◌==◌, List}
use Rattle.std.proofs.lemmas.Nat.{xor_comm, xor_block, shr-shr, and_mask}
use Rattle.std.proofs.lemmas.Nat.Bits.{bit_at_cat_low}
use Rattle.std.proofs.lemmas.Bool.{eqb-true}
use Rattle.std.specs.Int.Bits.{xor_zero_r}
use lib.Bits.{xor_assoc}
use Rattle.std.specs.Int.{bit_at}
use Rattle.aes_core.proofs.TableRules.{all_below, all_below_at}
use Rattle.gcm_seal.specs.declared.hash_key.TheConstants.{REDUCTIONS}
use Rattle.gcm_seal.specs.Field128.{shifted_by, shifted}
use Rattle.gcm_seal.specs.Horner.{horner, IsTable}
use Rattle.gcm_seal.proofs.Linear.{shifted-xor, shifted_by-xor}

-- the bits from k on, after the lowest k
horner_more : (x h k m : ℕ)
    → horner x h (k + m) ≡ bit_xor (shifted_by (horner x h k) m) (horner (x / 2 ^ k) h m)
unfolding horner shifted_by
horner_more x h k zero =
    let e : k + 0 ≡ k = omega arith in
    rw e (sym (xor_zero_r (horner x h k)))
horner_more x h k (suc m) =
    let place : k + suc m ≡ suc (k + m) = omega arith in
    let same : bit_at x (k + m) ≡ bit_at (x / 2 ^ k) m = ap (λ (y : ℕ). y % 2) (sym (shr-shr x k m)) in
    let high = shifted_by (horner x h k) m in
    let low = horner (x / 2 ^ k) h m in
    let bit = bit_at (x / 2 ^ k) m * h in
    rw (place, horner_more x h k m, same, shifted-xor high low)
    (sym (xor_assoc bit (shifted high) (shifted low))
    ∙ ap (λ (y : ℕ). bit_xor y (shifted low)) (xor_comm bit (shifted high))
    ∙ xor_assoc (shifted high) bit (shifted low))

-- only the bits below m count
horner_low : (x y h m : ℕ) → ((i : ℕ) → i < m → bit_at x i ≡ bit_at y i) → horner x h m ≡ horner y h m
unfolding horner
horner_low x y h zero same = refl
horner_low x y h (suc m) same =
    rw (same m (omega arith), horner_low x y h m (λ i lt. same i (omega arith))) refl

four_bits_split : (z : ℕ) → z ≡ bit_xor (z / 16 * 16) (z % 16)
four_bits_split z =
    let whole = xor_block 4 (z / 16) 0 0 (z % 16) (omega arith) (omega arith) in
    let e1 : z / 16 * 16 + 0 ≡ z / 16 * 16 = omega arith in
    let e2 : 0 + z % 16 ≡ z % 16 = omega arith in
    let sum : z ≡ z / 16 * 16 + z % 16 = omega arith in
    sum ∙ sym (rw (e1, e2, xor_zero_r (z / 16)) at whole)

-- nothing falls off a number whose low bits are zeros
shifted_whole : (a : ℕ) → shifted (a * 2) ≡ a
shifted_whole a =
    let e : a * 2 / 2 ≡ a = omega arith in
    let f : a * 2 % 2 ≡ 0 = omega arith in
    rw (e, f) (xor_zero_r a)

shifted_four : (a : ℕ) → shifted_by (a * 16) 4 ≡ a
unfolding shifted_by
shifted_four a =
    let e3 : a * 16 ≡ a * 8 * 2 = omega arith in
    let e2 : a * 8 ≡ a * 4 * 2 = omega arith in
    let e1 : a * 4 ≡ a * 2 * 2 = omega arith in
    ap (λ (x : ℕ). shifted (shifted (shifted x))) (ap shifted e3 ∙ shifted_whole (a * 8))
    ∙ ap (λ (x : ℕ). shifted (shifted x)) (ap shifted e2 ∙ shifted_whole (a * 4))
    ∙ ap shifted (ap shifted e1 ∙ shifted_whole (a * 2)) ∙ shifted_whole a

REDUCTIONS_test : ℕ → Bool
REDUCTIONS_test n = shifted_by n 4 == slice_index REDUCTIONS n * 2 ^ 112

REDUCTIONS_all : all_below REDUCTIONS_test 16 ≡ true
unfolding all_below REDUCTIONS_test shifted_by
REDUCTIONS_all = refl

-- the table REDUCTIONS has the high bits of the four shifts of each four bits
REDUCTIONS_rule : (n : ℕ) → n < 16 → shifted_by n 4 ≡ slice_index REDUCTIONS n * 2 ^ 112
unfolding REDUCTIONS_test
REDUCTIONS_rule n h =
    eqb-true (shifted_by n 4) (slice_index REDUCTIONS n * 2 ^ 112)
    (all_below_at REDUCTIONS_test 16 n REDUCTIONS_all h)

-- four shifts at once
four_shifts : (z : ℕ) → shifted_by z 4 ≡ bit_xor (z / 16) (slice_index REDUCTIONS (z % 16) * 2 ^ 112)
four_shifts z =
    ap (λ (x : ℕ). shifted_by x 4) (four_bits_split z) ∙ shifted_by-xor 4 (z / 16 * 16) (z % 16)
    ∙ ap₂ bit_xor (shifted_four (z / 16)) (REDUCTIONS_rule (z % 16) (omega arith))

low_bit : (y i : ℕ) → i < 4 → bit_at (y % 16) i ≡ bit_at y i
low_bit y i lt =
    let split : y / 16 * 16 + y % 16 ≡ y = omega arith in
    sym (rw split at (bit_at_cat_low (y / 16) 4 (y % 16) i lt))

-- four more bits
four_more : (x h k z : ℕ) → z ≡ horner x h k
    → bit_xor (bit_xor (z / 16) (slice_index REDUCTIONS (z % 16) * 2 ^ 112)) (horner (x / 2 ^ k % 16) h 4)
    ≡ horner x h (k + 4)
four_more x h k z e =
    let part = x / 2 ^ k in
    let same : horner (part % 16) h 4 ≡ horner part h 4 =
    horner_low (part % 16) part h 4 (λ i lt. low_bit part i lt) in
    rw (same, ← four_shifts z, e) (sym (horner_more x h k 4))

-- four more bits, by the table of h and the reduction r of the bits that fall off
pub table_next : (t : List ℕ) (x h i z r : ℕ) → IsTable t h → z ≡ horner x h (4 * i) → r < 2 ^ 16
    → r ≡ slice_index REDUCTIONS (bit_and z 15)
    → bit_xor (bit_xor (z / 16) (r * 2 ^ 112 % 2 ^ 128)) (slice_index t (bit_and (x / 2 ^ (4 * i)) 15))
    ≡ horner x h (4 * (i + 1))
table_next t x h i z r table e fits er =
    let part = x / 2 ^ (4 * i) in
    let next : 4 * (i + 1) ≡ 4 * i + 4 = omega arith in
    let whole : r * 2 ^ 112 % 2 ^ 128 ≡ r * 2 ^ 112 = omega arith in
    rw (whole, er, and_mask z 4, and_mask part 4, table (part % 16) (omega arith), next)
    (four_more x h (4 * i) z e)

-- entry 8 of a table is its key
pub table_key : (t : List ℕ) (h : ℕ) → IsTable t h → slice_index t 8 ≡ h
unfolding horner
table_key t h table =
    let e1 : 1 * h ≡ h = omega arith in
    let e0 : 0 * h ≡ 0 = omega arith in
    table 8 (omega arith) ∙ rw (e1, e0) (xor_zero_r h)
