-- The paths of a client's files.
use Rattle.std.specs.Prelude.{ℕ, List, ◌++◌, codes}
use Rattle.std.specs.Fmt.{decimal}

-- of its input, beside this path
abbrev pub input_path_of : List ℕ → ℕ → List ℕ
input_path_of beside number = beside ++ (codes ".in." ++ decimal number)

-- of its output
abbrev pub output_path_of : List ℕ → ℕ → List ℕ
output_path_of beside number = beside ++ (codes ".out." ++ decimal number)
