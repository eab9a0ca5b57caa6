-- The rounds of Salsa20/8, and blocks in lanes.
use Rattle.std.proofs.Common.{◌≡◌, ℕ, zero, suc, ◌+◌, ◌*◌, ◌/◌, ◌%◌, ◌<◌, List, [], ◌∷◌, refl, arith, length, subst, slice_index, add-one, sym}
use Rattle.std.proofs.lemmas.Grind.{same_number_lists}
use Rattle.scrypt_kdf.specs.Salsa.{column_round, row_round, double_rounds}

pub double_rounds_next : (n : ℕ) (x : List ℕ) → double_rounds (n + 1) x ≡ row_round (column_round (double_rounds n x))
unfolding double_rounds
double_rounds_next n x = rw add-one refl

-- what holds of each place in a row of four
below_four : (P : ℕ → Type 0) → P 0 → P 1 → P 2 → P 3 → (j : ℕ) → j < 4 → P j
below_four P p0 p1 p2 p3 zero h = p0
below_four P p0 p1 p2 p3 (suc zero) h = p1
below_four P p0 p1 p2 p3 (suc (suc zero)) h = p2
below_four P p0 p1 p2 p3 (suc (suc (suc zero))) h = p3
below_four P p0 p1 p2 p3 (suc (suc (suc (suc n)))) h = absurd (omega arith)

-- what holds of each place of a block
below_sixteen : (P : ℕ → Type 0) → P 0 → P 1 → P 2 → P 3 → P 4 → P 5 → P 6 → P 7
    → P 8 → P 9 → P 10 → P 11 → P 12 → P 13 → P 14 → P 15 → (k : ℕ) → k < 16 → P k
below_sixteen P a0 a1 a2 a3 b0 b1 b2 b3 c0 c1 c2 c3 d0 d1 d2 d3 k h =
    let place : 4 * (k / 4) + k % 4 ≡ k = omega arith in
    subst P place (below_four (λ row. (col : ℕ) → col < 4 → P (4 * row + col))
    (below_four _ a0 a1 a2 a3) (below_four _ b0 b1 b2 b3) (below_four _ c0 c1 c2 c3) (below_four _ d0 d1 d2 d3)
    (k / 4) (omega arith) (k % 4) (omega arith))

-- the 16 words of a list, one by one
abbrev each_word : List ℕ → List ℕ
each_word w =
    slice_index w 0 ∷ slice_index w 1 ∷ slice_index w 2 ∷ slice_index w 3
    ∷ slice_index w 4 ∷ slice_index w 5 ∷ slice_index w 6 ∷ slice_index w 7
    ∷ slice_index w 8 ∷ slice_index w 9 ∷ slice_index w 10 ∷ slice_index w 11
    ∷ slice_index w 12 ∷ slice_index w 13 ∷ slice_index w 14 ∷ slice_index w 15 ∷ []

-- a list of 16 words is these words
pub words_one_by_one : (w : List ℕ) → length w ≡ 16 → each_word w ≡ w
words_one_by_one w len = same_number_lists (each_word w) w (sym len)
    (below_sixteen (λ k. slice_index (each_word w) k ≡ slice_index w k) refl refl refl refl refl refl refl refl refl refl refl refl refl refl refl refl)
