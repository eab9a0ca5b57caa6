-- The calls that a list names.
use Rattle.std.specs.Prelude.{ℕ, List, [], ◌∷◌, Option, None, Some, Bool, ◌==◌, if◌then◌else◌}
use Rattle.mem_share.specs.declared.fail.Fail.{Fail}

-- whether the call of this number is done although it fails, and None where it doesn't fail
abbrev pub listed_at : List Fail → ℕ → Option Bool
listed_at [] number = None
listed_at (fail ∷ fails) number = if fail.call == number then Some fail.done else listed_at fails number
