-- A value for each label.
use Rattle.std.specs.Prelude.{◌≡◌, ◌≢◌, ℕ, zero, suc, ◌<◌, bytes_eq, Option, Some, None, List, ◌==◌, if◌then◌else◌, slice_index_or}
use Rattle.pw_path.specs.Tree.{no_hash}

-- the value of a label in a list of values; a number past the list has the value of a label that isn't used
abbrev pub value_in : List (List ℕ) → ℕ → List ℕ
value_in hashes label = slice_index_or hashes label no_hash

-- the values with another one at a label
abbrev pub with_value : (ℕ → List ℕ) → ℕ → List ℕ → ℕ → List ℕ
with_value values label hash i = if i == label then hash else values i

-- the least label that isn't used, and none where each label is used
abbrev pub IsLeastFree : (ℕ → List ℕ) → Option ℕ → Type 0
IsLeastFree values (Some label) = (label < 16384) × (values label ≡ no_hash) × ((i : ℕ) → i < label → values i ≢ no_hash)
IsLeastFree values None = (i : ℕ) → i < 16384 → values i ≢ no_hash

-- how many of the labels below a number are used
unfoldable pub used_below : (ℕ → List ℕ) → ℕ → ℕ
used_below values zero = 0
used_below values (suc n) = if bytes_eq (values n) no_hash then used_below values n else suc (used_below values n)
