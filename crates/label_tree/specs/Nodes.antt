-- How the tree is kept: 16,384 values of labels, and behind them the 5,461 nodes of levels 1 to 7, the lowest level first.
-- So the children of inner node k stand from place 4 * k on, and the node above place p is inner node p / 4.
use Rattle.std.specs.Prelude.{◌≡◌, ◌≢◌, ℕ, zero, suc, ◌+◌, ◌*◌, ◌/◌, ◌%◌, ◌<◌, nat_lt, List, [], ◌∷◌, length, if◌then◌else◌}
use Rattle.sha2.specs.Sha256.{sha256}
use Rattle.pw_path.specs.Tree.{node_input, others}
use Rattle.label_tree.specs.Values.{value_in}

-- the level of inner node k
abbrev pub level_of : ℕ → ℕ
level_of k =
    if nat_lt k 4096 then 1
    else if nat_lt k 5120 then 2
    else if nat_lt k 5376 then 3
    else if nat_lt k 5440 then 4
    else if nat_lt k 5456 then 5
    else if nat_lt k 5460 then 6
    else 7

-- four hashes from a place on
abbrev pub four : List (List ℕ) → ℕ → List (List ℕ)
four nodes p = value_in nodes p ∷ value_in nodes (p + 1) ∷ value_in nodes (p + 2) ∷ value_in nodes (p + 3) ∷ []

-- inner node k is the node of its level over its children
abbrev pub IsNode : List (List ℕ) → ℕ → Type 0
IsNode nodes k = value_in nodes (16384 + k) ≡ sha256 (node_input (level_of k) (four nodes (4 * k)))

-- each inner node is, but perhaps this one
abbrev pub AreNodesBut : ℕ → List (List ℕ) → Type 0
AreNodesBut odd nodes = (k : ℕ) → k < 5461 → k ≢ odd → IsNode nodes k

pub record IsKept (nodes : List (List ℕ)) : Type 0 where
  pub size : length nodes ≡ 21845
  pub each : (k : ℕ) → k < 5461 → IsNode nodes k

-- the siblings of a place and of the places above it, n levels of them
unfoldable pub rows_at : List (List ℕ) → ℕ → ℕ → List (List (List ℕ))
rows_at nodes p zero = []
rows_at nodes p (suc n) = others (p % 4) (four nodes (4 * (p / 4))) ∷ rows_at nodes (16384 + p / 4) n

-- how many places n levels have above the lowest of them
unfoldable pub places_above : ℕ → ℕ
places_above zero = 0
places_above (suc n) = 4 * places_above n + 1
