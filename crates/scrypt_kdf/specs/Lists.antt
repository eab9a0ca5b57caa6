-- Words that the functions of scrypt share, on lists.
use Rattle.std.specs.Prelude.{ℕ, zero, suc, List, [], ◌++◌, bit_xor}
use Rattle.std.specs.Simd.Lanes.{zip2}

-- f 0 ++ … ++ f (n - 1)
unfoldable pub joined : (ℕ → List ℕ) → ℕ → List ℕ
joined f zero = []
joined f (suc n) = joined f n ++ f n

-- two lists under xor, element by element
abbrev pub xor_words : List ℕ → List ℕ → List ℕ
xor_words xs ys = zip2 bit_xor xs ys
