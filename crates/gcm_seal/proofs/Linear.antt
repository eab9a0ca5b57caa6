-- Shifting is linear, and the bit rule is Horner's rule from the right.
use Rattle.std.proofs.Common.{◌≡◌, ℕ, zero, suc, ◌+◌, ◌-◌, ◌*◌, ◌/◌, ◌%◌, ◌<◌, refl, ◌∙◌, ap, sym, arith, bit_xor}
use Rattle.std.proofs.lemmas.Nat.{xor_shr, xor_mod, xor_comm}
use Rattle.std.proofs.lemmas.Nat.Bits.{bit_at-lt}
use Rattle.std.specs.Int.Bits.{xor_zero_r, xor_zero_l, xor_self}
use lib.Bits.{xor_assoc}
use Rattle.std.specs.Int.{bit_at}
use Rattle.gcm_seal.specs.Field128.{product_to, product, shifted_by, shifted, reduction}
use Rattle.gcm_seal.specs.Horner.{horner}

-- (a + b) + (c + d) = (a + c) + (b + d)
xor_swap : (a b c d : ℕ)
    → bit_xor (bit_xor a b) (bit_xor c d) ≡ bit_xor (bit_xor a c) (bit_xor b d)
xor_swap a b c d =
    let middle : bit_xor b (bit_xor c d) ≡ bit_xor c (bit_xor b d) =
    sym (xor_assoc b c d) ∙ ap (λ (x : ℕ). bit_xor x d) (xor_comm b c) ∙ xor_assoc c b d in
    xor_assoc a b (bit_xor c d) ∙ ap (bit_xor a) middle ∙ sym (xor_assoc a c (bit_xor b d))

-- 0 or 1 times a number, under xor of the bits
bit_times : (p q v : ℕ) → p < 2 → q < 2 → bit_xor p q * v ≡ bit_xor (p * v) (q * v)
bit_times zero q v hp hq = let e : 0 * v ≡ 0 = omega arith in rw e refl
bit_times (suc zero) zero v hp hq =
    let e : 0 * v ≡ 0 = omega arith in
    rw e (sym (xor_zero_r (1 * v)))
bit_times (suc zero) (suc zero) v hp hq =
    let e : 0 * v ≡ 0 = omega arith in
    e ∙ sym (xor_self (1 * v))
bit_times (suc (suc p)) q v hp hq = absurd (omega arith)
bit_times (suc zero) (suc (suc q)) v hp hq = absurd (omega arith)

pub shifted-xor : (a b : ℕ) → shifted (bit_xor a b) ≡ bit_xor (shifted a) (shifted b)
shifted-xor a b =
    let bits = bit_times (a % 2) (b % 2) reduction (omega arith) (omega arith) in
    rw (xor_shr a b 1, xor_mod a b 1, bits)
    (xor_swap (a / 2) (b / 2) (a % 2 * reduction) (b % 2 * reduction))

pub shifted_by-xor : (m a b : ℕ)
    → shifted_by (bit_xor a b) m ≡ bit_xor (shifted_by a m) (shifted_by b m)
unfolding shifted_by
shifted_by-xor zero a b = refl
shifted_by-xor (suc m) a b =
    rw (shifted_by-xor m a b) (shifted-xor (shifted_by a m) (shifted_by b m))

shifted_by_zero : (m : ℕ) → shifted_by 0 m ≡ 0
unfolding shifted_by
shifted_by_zero zero = refl
shifted_by_zero (suc m) = rw (shifted_by_zero m) refl

shifted_by_first : (v m : ℕ) → shifted_by (shifted v) m ≡ shifted_by v (suc m)
unfolding shifted_by
shifted_by_first v zero = refl
shifted_by_first v (suc m) = ap shifted (shifted_by_first v m)

shifted_by-times : (b v m : ℕ) → b < 2 → shifted_by (b * v) m ≡ b * shifted_by v m
shifted_by-times zero v m h =
    let e : 0 * v ≡ 0 = omega arith in
    let f : 0 * shifted_by v m ≡ 0 = omega arith in
    rw (e, f) (shifted_by_zero m)
shifted_by-times (suc zero) v m h =
    let e : 1 * v ≡ v = omega arith in
    let f : 1 * shifted_by v m ≡ shifted_by v m = omega arith in
    rw (e, f) refl
shifted_by-times (suc (suc b)) v m h = absurd (omega arith)

product_next : (x h m k : ℕ) → 127 - m ≡ k
    → product_to x h (suc m) ≡ bit_xor (product_to x h m) (bit_at x k * shifted_by h m)
unfolding product_to
product_next x h m k e = rw e refl

-- the first m bits as the standard counts them, and the others by Horner's rule
rule_split : (x h k m : ℕ) → m + k ≡ 128
    → bit_xor (product_to x h m) (shifted_by (horner x h k) m) ≡ product_to x h 128
unfolding horner
rule_split x h zero m e =
    let all : m ≡ 128 = omega arith in
    rw (shifted_by_zero m, all) (xor_zero_r (product_to x h 128))
rule_split x h (suc k) m e =
    let place : 127 - m ≡ k = omega arith in
    let rest = horner x h k in
    let far = shifted_by rest (suc m) in
    let bit = bit_at x k * shifted_by h m in
    let later : bit_xor (product_to x h (suc m)) far ≡ product_to x h 128 =
    rule_split x h k (suc m) (omega arith) in
    let next : product_to x h (suc m) ≡ bit_xor (product_to x h m) bit = product_next x h m k place in
    let times = shifted_by-times (bit_at x k) h m (bit_at-lt x k) in
    rw (shifted_by-xor m (bit_at x k * h) (shifted rest), times, shifted_by_first rest m)
    (sym (xor_assoc (product_to x h m) bit far)
    ∙ ap (λ (y : ℕ). bit_xor y far) (sym next) ∙ later)

pub product_horner : (x h : ℕ) → horner x h 128 ≡ product x h
unfolding product_to shifted_by
product_horner x h = sym (xor_zero_l (horner x h 128)) ∙ rule_split x h 128 0 refl
