-- A record or none for each label.
use Rattle.std.specs.Prelude.{◌≡◌, ◌≢◌, ℕ, zero, suc, ◌<◌, Option, Some, None, List, ◌==◌, if◌then◌else◌, slice_index_or, is_some}

-- the record of a label in a list of them, and none past the list
abbrev pub row_in : List (Option (List ℕ)) → ℕ → Option (List ℕ)
row_in rows label = slice_index_or rows label None

-- the records with another one, or none, at a label
abbrev pub with_row : (ℕ → Option (List ℕ)) → ℕ → Option (List ℕ) → ℕ → Option (List ℕ)
with_row rows label row i = if i == label then row else rows i

-- no label has a record
abbrev pub no_rows : ℕ → Option (List ℕ)
no_rows label = None

-- how many of the labels below a number have a record
unfoldable pub rows_below : (ℕ → Option (List ℕ)) → ℕ → ℕ
rows_below rows zero = 0
rows_below rows (suc n) = if is_some (rows n) then suc (rows_below rows n) else rows_below rows n

-- the least label that has a record, and none where no label has one
abbrev pub IsLeastRow : (ℕ → Option (List ℕ)) → Option ℕ → Type 0
IsLeastRow rows (Some label) = (label < 16384) × (rows label ≢ None) × ((i : ℕ) → i < label → rows i ≡ None)
IsLeastRow rows None = (i : ℕ) → i < 16384 → rows i ≡ None
