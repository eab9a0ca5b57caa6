-- Two maps that go by a relation at each name.
use Rattle.std.specs.Prelude.{Option, None, Some}

-- both are there and go by R, or neither is there
abbrev pub Matches : {A B : Type 0} → (A → B → Type 0) → Option A → Option B → Type 0
Matches R None None = Unit {0}
Matches R None (Some y) = ⊥
Matches R (Some x) None = ⊥
Matches R (Some x) (Some y) = R x y
