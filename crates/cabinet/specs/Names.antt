-- Names that are held, and then one more or one fewer.
use Rattle.std.specs.Prelude.{ℕ, ◌<◌, ◌⊎◌, List, [], ◌∷◌, ◌++◌, length, filter, Option, None, Some, Result, Ok, Err, not, if◌then◌else◌, Bool, IsTrue, bytes_eq}
use Rattle.std.specs.List.{list_any}

abbrev pub is_held : List (List ℕ) → List ℕ → Bool
is_held names name = list_any (λ held. bytes_eq held name) names

abbrev pub with_name : List (List ℕ) → List ℕ → List (List ℕ)
with_name names name = if is_held names name then names else names ++ name ∷ []

-- each of these, in their order, that isn't there yet
abbrev pub with_names : List (List ℕ) → List (List ℕ) → List (List ℕ)
with_names names [] = names
with_names names (x ∷ xs) = with_names (with_name names x) xs

-- all but this one
abbrev pub without_name : List (List ℕ) → List ℕ → List (List ℕ)
without_name names name = filter (λ held. not (bytes_eq held name)) names

-- after a read of a record: a name that has no record is held no longer
abbrev pub names_read : {A E : Type 0} → Result (Option A) E → List (List ℕ) → List ℕ → List (List ℕ)
names_read (Ok None) names name = without_name names name
names_read (Ok (Some found)) names name = names
names_read (Err fault) names name = names

-- the name is held, or there is room for one more
abbrev pub HasRoom : List (List ℕ) → ℕ → List ℕ → Type 0
HasRoom names most name = IsTrue (is_held names name) ⊎ (length names < most)
