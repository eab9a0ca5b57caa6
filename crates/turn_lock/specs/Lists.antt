-- How often a number stands in a list, and the entries of one caller.
use Rattle.std.specs.Prelude.{ℕ, ◌+◌, List, [], ◌∷◌, ◌++◌, ◌==◌, count_by, if◌then◌else◌}

-- how often a number stands in the list
abbrev pub count_of : ℕ → List ℕ → ℕ
count_of number numbers = count_by (λ other. other == number) numbers

-- the first element, where there is one
abbrev pub head_or : ℕ → List ℕ → ℕ
head_or other [] = other
head_or other (x ∷ xs) = x

-- the list without its first element
abbrev pub tail : List ℕ → List ℕ
tail [] = []
tail (x ∷ xs) = xs

module _ {E : Type 0} (caller_of : E → ℕ) where
  -- the entries of a caller, each with its place, where the first element has the place given
  abbrev pub entries_from : ℕ → ℕ → List E → List (ℕ × E)
  entries_from place caller [] = []
  entries_from place caller (e ∷ es) =
      (if caller_of e == caller then (place, e) ∷ [] else []) ++ entries_from (place + 1) caller es

  -- the entries of a caller, each with its place, counted from 0
  abbrev pub entries_of : ℕ → List E → List (ℕ × E)
  entries_of caller entries = entries_from 0 caller entries
