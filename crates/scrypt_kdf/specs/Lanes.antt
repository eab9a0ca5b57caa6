-- A block of 16 words in four vectors along its diagonals, one lane for each column.
use Rattle.std.specs.Prelude.{ℕ, List, [], ◌∷◌, slice_index}
use Rattle.scrypt_kdf.specs.Salsa.{quarter_round}
use Rattle.scrypt_kdf.specs.declared.salsa.Diagonals.{Diagonals}

-- the words of four lanes
abbrev pub four : (ℕ → ℕ) → List ℕ
four f = f 0 ∷ f 1 ∷ f 2 ∷ f 3 ∷ []

-- the words of a block in the standard's order
abbrev pub in_order : Diagonals → List ℕ
in_order x =
    slice_index x.a 0 ∷ slice_index x.d 1 ∷ slice_index x.c 2 ∷ slice_index x.b 3
    ∷ slice_index x.b 0 ∷ slice_index x.a 1 ∷ slice_index x.d 2 ∷ slice_index x.c 3
    ∷ slice_index x.c 0 ∷ slice_index x.b 1 ∷ slice_index x.a 2 ∷ slice_index x.d 3
    ∷ slice_index x.d 0 ∷ slice_index x.c 1 ∷ slice_index x.b 2 ∷ slice_index x.a 3 ∷ []

-- the quarter round of a lane
abbrev pub quarter_at : Diagonals → ℕ → ℕ × ℕ × ℕ × ℕ
quarter_at x j = quarter_round (slice_index x.a j) (slice_index x.b j) (slice_index x.c j) (slice_index x.d j)
