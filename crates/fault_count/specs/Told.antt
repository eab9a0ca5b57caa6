-- What an object outside the program tells of its content. What isn't told is None.
use Rattle.std.specs.Prelude.{◌≡◌, ℕ, List, ◌++◌, Option, None, Some}

-- whether the content is told stays, and where it is, it goes from old to new by R
abbrev pub Becomes : {A : Type 0} → Option A → Option A → (A → A → Type 0) → Type 0
Becomes None None R = Unit {0}
Becomes None (Some new) R = ⊥
Becomes (Some old) None R = ⊥
Becomes (Some old) (Some new) R = R old new

-- the numbers given, in order, where they are still told; who tells no more never tells again
abbrev pub Gives : Option (List ℕ) → Option (List ℕ) → List ℕ → Type 0
Gives old None numbers = Unit {0}
Gives None (Some new) numbers = ⊥
Gives (Some old) (Some new) numbers = new ≡ old ++ numbers
