-- One path through the tree: what root a value and its siblings give, and what is hashed on the way.
use Rattle.std.specs.Prelude.{◌≡◌, ℕ, suc, ◌/◌, ◌%◌, ◌<◌, ◌⊎◌, List, [], ◌∷◌, ◌++◌, length, take, drop}
use Rattle.sha2.specs.Sha256.{sha256}
use Rattle.pw_path.specs.Tree.{node_input, aux_of}

-- a hash put at index k among its siblings
abbrev pub put_at : ℕ → List ℕ → List (List ℕ) → List (List ℕ)
put_at k hash row = take k row ++ (hash ∷ drop k row)

-- the way up from a hash, which is node i of a level, with these rows of siblings
unfoldable pub climb : ℕ → ℕ → List ℕ → List (List (List ℕ)) → List ℕ
climb level i hash [] = hash
climb level i hash (row ∷ rows) =
    climb (suc level) (i / 4) (sha256 (node_input (suc level) (put_at (i % 4) hash row))) rows

-- the root that a label's value and its siblings give
abbrev pub root_of : ℕ → List ℕ → List (List (List ℕ)) → List ℕ
root_of label value aux = climb 0 label value aux

-- ---- what is hashed

-- this input is hashed on that way up
unfoldable pub OnPath : ℕ → ℕ → List ℕ → List (List (List ℕ)) → List ℕ → Type 0
OnPath level i hash [] input = ⊥
OnPath level i hash (row ∷ rows) input =
    (input ≡ node_input (suc level) (put_at (i % 4) hash row))
    ⊎ OnPath (suc level) (i / 4) (sha256 (node_input (suc level) (put_at (i % 4) hash row))) rows input

-- this input is hashed for a node of the whole tree: each node is on the path of a label
abbrev pub OnTree : (ℕ → List ℕ) → List ℕ → Type 0
OnTree values input = (label : ℕ) × ((label < 16384) × OnPath 0 label (values label) (aux_of values label) input)

-- no two of these inputs have one hash
abbrev pub HasNoCollision : (List ℕ → Type 0) → Type 0
HasNoCollision IsHashed = (a b : List ℕ) → IsHashed a → IsHashed b → sha256 a ≡ sha256 b → a ≡ b

-- ---- shapes

unfoldable pub AreHashes : List (List ℕ) → Type 0
AreHashes [] = Unit {0}
AreHashes (hash ∷ hashes) = (length hash ≡ 32) × AreHashes hashes

-- three siblings
pub record IsRow (row : List (List ℕ)) : Type 0 where
  pub count : length row ≡ 3
  pub hashes : AreHashes row

unfoldable pub AreRows : List (List (List ℕ)) → Type 0
AreRows [] = Unit {0}
AreRows (row ∷ rows) = IsRow row × AreRows rows

-- three siblings at each of seven levels
pub record IsAux (aux : List (List (List ℕ))) : Type 0 where
  pub count : length aux ≡ 7
  pub rows : AreRows aux
