-- Powers of two.
use Rattle.std.proofs.Common.{◌≡◌, ℕ, zero, suc, ◌*◌, ◌/◌, ◌%◌, ◌^◌, ◌<◌, ◌≤◌, refl, arith, sym, ◌∙◌, inl, inr, count_ones}
use Rattle.std.proofs.lemmas.Bool.{cases_lt, eqb-true}
use Rattle.std.proofs.lemmas.Nat.{zero_from_ones, ones_le_self}
use Rattle.std.proofs.Math.Pow.{pow-lt, pow_mono}
use Rattle.std.proofs.Math.Nat.{pow-succ'}
use Rattle.std.specs.Int.{is_power_of_two, IsPowerOfTwo}
use Rattle.std.specs.Bool.{IsTrue}
use Rattle.std.specs.Int.Count.{ones, ones_step}

-- a power of two up to 2^20 has an exponent up to 20
pub exponent_below : (k n : ℕ) → n ≡ 2 ^ k → n ≤ 2 ^ 20 → k ≤ 20
exponent_below k n e most = elim (cases_lt 20 k) [
  | inl above ↦ (let more : 2 ^ 20 < 2 ^ k = pow-lt above in absurd (omega (arith, more, e, most)))
  | inr below ↦ below
]

-- by halving: d is a bound on n
one_bit : (d n : ℕ) → n ≤ d → count_ones n ≡ 1 → IsPowerOfTwo n
one_bit zero n le one = absurd (omega (arith, ones_le_self n, one))
one_bit (suc d) n le one = elim (cases_lt (n % 2) 1) [
  | inl even ↦
      let half = one_bit d (n / 2) (omega (arith, ones_step n)) (omega (arith, ones_step n)) in
      let double : n ≡ 2 * 2 ^ half.0 = omega (arith, half.1) in
      (suc half.0, double ∙ sym (pow-succ' 2 half.0))
  | inr odd ↦
      let rest : n / 2 ≡ 0 = zero_from_ones (n / 2) (omega (arith, ones_step n)) in
      (0, omega arith)
]

-- a number of which one bit is set is a power of two
pub power_of_one_bit : (n : ℕ) → count_ones n ≡ 1 → IsPowerOfTwo n
power_of_one_bit n = one_bit n n (omega arith)

-- of a power of two one bit is set
pub one_bit_of_power : (k : ℕ) → count_ones (2 ^ k) ≡ 1
unfolding ones
one_bit_of_power zero = refl
one_bit_of_power (suc k) =
    let double : 2 ^ suc k ≡ 2 * 2 ^ k = pow-succ' 2 k in
    let half : 2 ^ suc k / 2 ≡ 2 ^ k = omega arith in
    let step = ones_step (2 ^ suc k) in
    omega (arith, rw half at step, one_bit_of_power k)

-- what the test says
pub power_of_test : (n : ℕ) → IsTrue (is_power_of_two n) → IsPowerOfTwo n
power_of_test n test = power_of_one_bit n (eqb-true (count_ones n) 1 test)

pub test_of_power : (n : ℕ) → IsPowerOfTwo n → IsTrue (is_power_of_two n)
test_of_power n power = rw (power.1, one_bit_of_power power.0) refl

-- of the bounds 2^20 and 2^(16 r), the second is the lower one at r = 1 alone
pub below_for_r : (n r : ℕ) → 1 ≤ r → n ≤ 2 ^ 20 → (r ≡ 1 → n < 2 ^ 16) → n < 2 ^ (16 * r)
below_for_r n r pos most at_one = elim (cases_lt 1 r) [
  | inl more ↦ (let high : 2 ^ 32 ≤ 2 ^ (16 * r) = pow_mono {i = 32} {j = 16 * r} (omega arith) in omega (arith, high, most))
  | inr one ↦ (let e : r ≡ 1 = omega arith in rw e (at_one e))
]
