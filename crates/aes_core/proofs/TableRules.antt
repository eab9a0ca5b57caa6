-- What each entry of a table is. The checker computes a test over all entries, and a lemma turns the
-- test into the rule at an entry.
use Rattle.std.proofs.Common.{◌≡◌, ℕ, zero, suc, ◌<◌, ◌≤◌, ◌-◌, ◌*◌, ◌^◌, [], ◌∷◌, refl, true, Bool, ◌&&◌, ◌==◌, arith, inl, inr, slice_index}
use Rattle.std.proofs.lemmas.Bool.{cases_lt, and_parts, eqb-true}
use Rattle.std.specs.Int.{byte_at, to_be_bytes, w32}
use Rattle.aes_core.specs.declared.tables.TheConstants.{ROUND_CONSTANTS, S_BOX, T0, T1, T2, T3}
use Rattle.aes_core.specs.Field.{product_below, power, number_of_bits, s_box, product}

-- a test passes at each number below n
unfoldable pub all_below : (ℕ → Bool) → ℕ → Bool
all_below p zero = true
all_below p (suc n) = p n && all_below p n

pub all_below_at : (p : ℕ → Bool) (n k : ℕ) → all_below p n ≡ true → k < n → p k ≡ true
unfolding all_below
all_below_at p zero k h lt = absurd (omega arith)
all_below_at p (suc n) k h lt =
    let parts = and_parts (p n) (all_below p n) h in
    elim (cases_lt k n) [
      | inl below ↦ all_below_at p n k parts.1 below
      | inr top ↦
          let e : k ≡ n = omega arith in
          rw e parts.0
    ]

S_BOX_test : ℕ → Bool
S_BOX_test b = slice_index S_BOX b == s_box b

S_BOX_all : all_below S_BOX_test 256 ≡ true
unfolding all_below S_BOX_test product_below power number_of_bits s_box
S_BOX_all = refl

-- the table S_BOX is the S-box
pub S_BOX_rule : (b : ℕ) → b < 256 → slice_index S_BOX b ≡ s_box b
unfolding S_BOX_test
S_BOX_rule b h =
    eqb-true (slice_index S_BOX b) (s_box b) (all_below_at S_BOX_test 256 b S_BOX_all h)

-- the word y has the bytes a, b, c and d
has_bytes : ℕ → ℕ → ℕ → ℕ → ℕ → Bool
has_bytes y a b c d =
    (byte_at 3 y == a) && (byte_at 2 y == b) && (byte_at 1 y == c) && (byte_at 0 y == d)

bytes_from_test : (y a b c d : ℕ) → has_bytes y a b c d ≡ true
    → to_be_bytes w32 y ≡ a ∷ b ∷ c ∷ d ∷ []
unfolding has_bytes
bytes_from_test y a b c d h =
    let parts = and_parts ((byte_at 3 y == a) && (byte_at 2 y == b) && (byte_at 1 y == c)) (byte_at 0 y == d) h in
    let high_3 = and_parts ((byte_at 3 y == a) && (byte_at 2 y == b)) (byte_at 1 y == c) parts.0 in
    let high_2 = and_parts (byte_at 3 y == a) (byte_at 2 y == b) high_3.0 in
    rw (
      eqb-true (byte_at 3 y) a high_2.0,
      eqb-true (byte_at 2 y) b high_2.1,
      eqb-true (byte_at 1 y) c high_3.1,
      eqb-true (byte_at 0 y) d parts.1,
    ) refl

T0_test : ℕ → Bool
T0_test x =
    has_bytes (slice_index T0 x) (product 2 (s_box x)) (s_box x) (s_box x) (product 3 (s_box x))

T1_test : ℕ → Bool
T1_test x =
    has_bytes (slice_index T1 x) (product 3 (s_box x)) (product 2 (s_box x)) (s_box x) (s_box x)

T2_test : ℕ → Bool
T2_test x =
    has_bytes (slice_index T2 x) (s_box x) (product 3 (s_box x)) (product 2 (s_box x)) (s_box x)

T3_test : ℕ → Bool
T3_test x =
    has_bytes (slice_index T3 x) (s_box x) (s_box x) (product 3 (s_box x)) (product 2 (s_box x))

T0_all : all_below T0_test 256 ≡ true
unfolding all_below T0_test has_bytes product_below power number_of_bits s_box
T0_all = refl

T1_all : all_below T1_test 256 ≡ true
unfolding all_below T1_test has_bytes product_below power number_of_bits s_box
T1_all = refl

T2_all : all_below T2_test 256 ≡ true
unfolding all_below T2_test has_bytes product_below power number_of_bits s_box
T2_all = refl

T3_all : all_below T3_test 256 ≡ true
unfolding all_below T3_test has_bytes product_below power number_of_bits s_box
T3_all = refl

-- an entry of T0 is the S-box times column 0 of MixColumns, and so on
pub T0_rule : (x : ℕ) → x < 256 → to_be_bytes w32 (slice_index T0 x)
    ≡ product 2 (s_box x) ∷ s_box x ∷ s_box x ∷ product 3 (s_box x) ∷ []
unfolding T0_test
T0_rule x h = bytes_from_test (slice_index T0 x) _ _ _ _ (all_below_at T0_test 256 x T0_all h)

pub T1_rule : (x : ℕ) → x < 256 → to_be_bytes w32 (slice_index T1 x)
    ≡ product 3 (s_box x) ∷ product 2 (s_box x) ∷ s_box x ∷ s_box x ∷ []
unfolding T1_test
T1_rule x h = bytes_from_test (slice_index T1 x) _ _ _ _ (all_below_at T1_test 256 x T1_all h)

pub T2_rule : (x : ℕ) → x < 256 → to_be_bytes w32 (slice_index T2 x)
    ≡ s_box x ∷ product 3 (s_box x) ∷ product 2 (s_box x) ∷ s_box x ∷ []
unfolding T2_test
T2_rule x h = bytes_from_test (slice_index T2 x) _ _ _ _ (all_below_at T2_test 256 x T2_all h)

pub T3_rule : (x : ℕ) → x < 256 → to_be_bytes w32 (slice_index T3 x)
    ≡ s_box x ∷ s_box x ∷ product 3 (s_box x) ∷ product 2 (s_box x) ∷ []
unfolding T3_test
T3_rule x h = bytes_from_test (slice_index T3 x) _ _ _ _ (all_below_at T3_test 256 x T3_all h)

ROUND_CONSTANTS_test : ℕ → Bool
ROUND_CONSTANTS_test k = slice_index ROUND_CONSTANTS k == power 2 k * 2 ^ 24

ROUND_CONSTANTS_all : all_below ROUND_CONSTANTS_test 14 ≡ true
unfolding all_below ROUND_CONSTANTS_test product_below power
ROUND_CONSTANTS_all = refl

-- the table's entry before j is round constant j
pub ROUND_CONSTANTS_rule : (j : ℕ) → 0 < j → j ≤ 14
    → slice_index ROUND_CONSTANTS (j - 1) ≡ power 2 (j - 1) * 2 ^ 24
unfolding ROUND_CONSTANTS_test
ROUND_CONSTANTS_rule j low high =
    let passes = all_below_at ROUND_CONSTANTS_test 14 (j - 1) ROUND_CONSTANTS_all (omega arith) in
    eqb-true (slice_index ROUND_CONSTANTS (j - 1)) (power 2 (j - 1) * 2 ^ 24) passes
