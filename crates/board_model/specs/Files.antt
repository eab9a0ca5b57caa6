-- The files of a board: bytes by name, the names in the order of their bytes.
use Rattle.std.specs.Prelude.{ℕ, List, Option, None, Some, IsTrue, codes, nat_eq}
use Rattle.std.specs.List.{starts_with}
use Rattle.std.specs.Ordering.{nat_cmp}
use Rattle.std.specs.Cmp.Lexicographic.{slice_cmp}
use Rattle.std.specs.FinMap.{FinMap, get, insert, remove}

abbrev pub Files : Type 0
Files = FinMap (slice_cmp nat_cmp) (List ℕ)

-- the name of a temporary file
abbrev pub IsTemporary : List ℕ → Type 0
IsTemporary name = IsTrue (starts_with nat_eq name (codes "tmp-"))

-- one file with this content, or without content none
abbrev pub with_content : Files → List ℕ → Option (List ℕ) → Files
with_content files name None = remove files name
with_content files name (Some bytes) = insert files name bytes

abbrev pub moved_to : Files → List ℕ → List ℕ → Option (List ℕ) → Files
moved_to files from to None = files
moved_to files from to (Some bytes) = insert (remove files from) to bytes

-- the files once the file `from` has the name `to`, in place of what had it
abbrev pub renamed : Files → List ℕ → List ℕ → Files
renamed files from to = moved_to files from to (get files from)
