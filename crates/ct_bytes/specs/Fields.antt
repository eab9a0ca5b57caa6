-- How a field is spelled.
use Rattle.std.specs.Prelude.{ℕ, List, ◌∷◌, length}

-- a length byte, and so many bytes
abbrev pub field8 : List ℕ → List ℕ
field8 bytes = length bytes ∷ bytes
