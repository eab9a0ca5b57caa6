-- What the table of a hash key keeps: its products with four bits.
use Rattle.std.specs.Prelude.{◌≡◌, ◌<◌, ℕ, zero, suc, ◌*◌, List, bit_xor, slice_index}
use Rattle.std.specs.Int.{bit_at}
use Rattle.gcm_seal.specs.Field128.{shifted}

-- the product of h with the lowest k bits of x, as they stand at the end of a block (Horner's rule)
unfoldable pub horner : ℕ → ℕ → ℕ → ℕ
horner x h zero = 0
horner x h (suc k) = bit_xor (bit_at x k * h) (shifted (horner x h k))

-- entry n is the product of h with the four bits of n
abbrev pub IsTable : List ℕ → ℕ → Type 0
IsTable t h = (n : ℕ) → n < 16 → slice_index t n ≡ horner n h 4
