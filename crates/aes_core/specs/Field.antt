-- GF(2^8) and the S-box (FIPS 197, sections 4 and 5.1.1). A byte is a number below 256, whose bit i
-- is the coefficient of x^i.
use Rattle.std.specs.Prelude.{ℕ, zero, suc, ◌+◌, ◌*◌, ◌/◌, ◌%◌, ◌^◌, bit_xor}
use Rattle.std.specs.Int.{bit_at}

-- the product with x, modulo x^8 + x^4 + x^3 + x + 1 (4.2)
abbrev pub times_x : ℕ → ℕ
times_x b = bit_xor (b * 2 % 256) (b / 128 * 0x1B)

-- the sum of the products of a with x^i, over the bits i below n that b has
unfoldable pub product_below : ℕ → ℕ → ℕ → ℕ
product_below zero a b = 0
product_below (suc n) a b = bit_xor (b % 2 * a) (product_below n (times_x a) (b / 2))

-- the product of two bytes (4.2)
abbrev pub product : ℕ → ℕ → ℕ
product a b = product_below 8 a b

unfoldable pub power : ℕ → ℕ → ℕ
power b zero = 1
power b (suc n) = product b (power b n)

-- the multiplicative inverse, and zero for zero (4.4): b^254
abbrev pub inverse : ℕ → ℕ
inverse b = power b 254

-- bit i of the affine map with the constant 63 (5.1.1)
abbrev pub affine_bit : ℕ → ℕ → ℕ
affine_bit b i =
    (bit_at b i + bit_at b ((i + 4) % 8) + bit_at b ((i + 5) % 8) + bit_at b ((i + 6) % 8)
    + bit_at b ((i + 7) % 8) + bit_at 0x63 i) % 2

-- the number with the bits f 0, …, f (n - 1)
unfoldable pub number_of_bits : (ℕ → ℕ) → ℕ → ℕ
number_of_bits f zero = 0
number_of_bits f (suc n) = number_of_bits f n + f n * 2 ^ n

-- the affine map (5.1.1)
abbrev pub affine : ℕ → ℕ
affine b = number_of_bits (affine_bit b) 8

-- the S-box: the affine map of the inverse (5.1.1)
unfoldable pub s_box : ℕ → ℕ
s_box b = affine (inverse b)
