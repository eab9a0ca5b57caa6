-- The tree of hashes over 16,384 labels. Level 0 has a value for each label, and each node above hashes its level and
-- its four children.
use Rattle.std.specs.Prelude.{◌≡◌, ◌≢◌, ℕ, zero, suc, ◌+◌, ◌*◌, ◌/◌, ◌%◌, List, [], ◌∷◌, ◌++◌, length, take, drop, replicate, flat_map}
use Rattle.sha2.specs.Sha256.{sha256}

-- hashes, one after another
abbrev pub joined : List (List ℕ) → List ℕ
joined hashes = flat_map (λ hash. hash) hashes

-- what is hashed for a node of this level over these four children
abbrev pub node_input : ℕ → List (List ℕ) → List ℕ
node_input level children = level ∷ joined children

-- node i of a level, over a value for each label
unfoldable pub node_at : (ℕ → List ℕ) → ℕ → ℕ → List ℕ
node_at values zero i = values i
node_at values (suc level) i =
    sha256 (node_input (suc level) (node_at values level (4 * i)
    ∷ node_at values level (4 * i + 1) ∷ node_at values level (4 * i + 2) ∷ node_at values level (4 * i + 3) ∷ []))

-- the children of node i of the level above this one
abbrev pub children_at : (ℕ → List ℕ) → ℕ → ℕ → List (List ℕ)
children_at values level i =
    node_at values level (4 * i) ∷ node_at values level (4 * i + 1) ∷ node_at values level (4 * i + 2) ∷ node_at values level (4 * i + 3) ∷ []

-- the root: the one node of level 7
abbrev pub root : (ℕ → List ℕ) → List ℕ
root values = node_at values 7 0

-- all children but the one at index k
abbrev pub others : ℕ → List (List ℕ) → List (List ℕ)
others k children = take k children ++ drop (suc k) children

-- the siblings of node i of a level and of the nodes above it, n levels of them
unfoldable pub siblings : (ℕ → List ℕ) → ℕ → ℕ → ℕ → List (List (List ℕ))
siblings values level i zero = []
siblings values level i (suc n) =
    others (i % 4) (children_at values level (i / 4)) ∷ siblings values (suc level) (i / 4) n

-- the siblings on a label's path, from the bottom
abbrev pub aux_of : (ℕ → List ℕ) → ℕ → List (List (List ℕ))
aux_of values label = siblings values 0 label 7

-- the value of a label that isn't used
abbrev pub no_hash : List ℕ
no_hash = replicate 32 0

-- all labels but one have the values that they had
unfoldable pub AgreeBut : ℕ → (ℕ → List ℕ) → (ℕ → List ℕ) → Type 0
AgreeBut label old new = (i : ℕ) → i ≢ label → new i ≡ old i

-- each value is a hash of 32 bytes
unfoldable pub AllHashes : (ℕ → List ℕ) → Type 0
AllHashes values = (i : ℕ) → length (values i) ≡ 32
