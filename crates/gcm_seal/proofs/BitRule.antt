-- The bit rule, bit by bit.
use Rattle.std.proofs.Common.{◌≡◌, ℕ, ◌+◌, ◌-◌, ◌*◌, ◌/◌, ◌^◌, ◌≢◌, refl, ◌∙◌, sym, arith, add-one, bit_xor, bit_and}
use Rattle.std.proofs.lemmas.Nat.Bits.{shr_and_one, bit_at-lt}
use Rattle.std.specs.Int.Bits.{xor_zero_r}
use Rattle.std.specs.Int.{bit_at}
use Rattle.gcm_seal.specs.Field128.{product_to, shifted_by, shifted}

pub shifted_next : (y i v : ℕ) → v ≡ shifted_by y i → shifted v ≡ shifted_by y (i + 1)
unfolding shifted_by
shifted_next y i v e = rw (add-one, ← e) refl

pub product_next_one : (x y i z v : ℕ) → z ≡ product_to x y i → v ≡ shifted_by y i
    → bit_and (x / 2 ^ (127 - i)) 1 ≡ 1 → bit_xor z v ≡ product_to x y (i + 1)
unfolding product_to
product_next_one x y i z v ez ev one =
    let b : bit_at x (127 - i) ≡ 1 = sym (shr_and_one x (127 - i)) ∙ one in
    let whole : 1 * shifted_by y i ≡ shifted_by y i = omega arith in
    rw (add-one, ← ez, b, whole, ← ev) refl

pub product_next_zero : (x y i z : ℕ) → z ≡ product_to x y i → bit_and (x / 2 ^ (127 - i)) 1 ≢ 1
    → z ≡ product_to x y (i + 1)
unfolding product_to
product_next_zero x y i z ez none =
    let place = 127 - i in
    let b : bit_at x place ≡ 0 = omega (arith, shr_and_one x place, bit_at-lt x place) in
    let gone : 0 * shifted_by y i ≡ 0 = omega arith in
    rw (add-one, ← ez, b, gone) (sym (xor_zero_r z))

pub bit_one : (x k h : ℕ) → bit_and (x / 2 ^ k) 1 ≡ 1 → h ≡ bit_at x k * h
bit_one x k h one =
    let b : bit_at x k ≡ 1 = sym (shr_and_one x k) ∙ one in
    rw b (omega arith)

pub bit_none : (x k h : ℕ) → bit_and (x / 2 ^ k) 1 ≢ 1 → 0 ≡ bit_at x k * h
bit_none x k h none =
    let b : bit_at x k ≡ 0 = omega (arith, shr_and_one x k, bit_at-lt x k) in
    rw b (omega arith)
