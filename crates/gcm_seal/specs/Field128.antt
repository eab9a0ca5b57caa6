-- GF(2^128) as in SP 800-38D, 6.3. A block is a number whose high bit is the block's leftmost: bit i
-- of the standard, counted from the left, is bit 127 - i of the number.
use Rattle.std.specs.Prelude.{ℕ, zero, suc, ◌-◌, ◌*◌, ◌/◌, ◌%◌, ◌^◌, bit_xor}
use Rattle.std.specs.Int.{bit_at}

-- R: the bits 11100001, then 120 zeros
abbrev pub reduction : ℕ
reduction = 0xE1 * 2 ^ 120

-- V shifted to the right by a bit, under R where a one fell off (step 3)
abbrev pub shifted : ℕ → ℕ
shifted v = bit_xor (v / 2) (v % 2 * reduction)

-- V i, from V 0 = v
unfoldable pub shifted_by : ℕ → ℕ → ℕ
shifted_by v zero = v
shifted_by v (suc i) = shifted (shifted_by v i)

-- Z i
unfoldable pub product_to : ℕ → ℕ → ℕ → ℕ
product_to x y zero = 0
product_to x y (suc i) = bit_xor (product_to x y i) (bit_at x (127 - i) * shifted_by y i)

-- the product of x and y: Z 128
abbrev pub product : ℕ → ℕ → ℕ
product x y = product_to x y 128
