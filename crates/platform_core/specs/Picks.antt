-- Names that are picked out of a list.
use Rattle.std.specs.Prelude.{◌≡◌, ◌⊎◌, ◌≤◌, List, [], ◌∷◌, ◌++◌, length, Contains, bytes_eq}
use Rattle.std.specs.List.{IsDistinct}
use Rattle.share_api.specs.Contents.{Bytes}

-- these are the ones of which P is true
pub record Picked (P : Bytes → Type 0) (names picked : List Bytes) : Type 0 where
  pub every : (q : Bytes) → P q → Contains names q → Contains picked q
  pub only : (q : Bytes) → Contains picked q → P q × Contains names q
  pub once : IsDistinct bytes_eq names → IsDistinct bytes_eq picked

-- the name is added where P is true of it
abbrev pub Adds : (Bytes → Type 0) → Bytes → List Bytes → List Bytes → Type 0
Adds P name old new = (P name × (new ≡ old ++ name ∷ [])) ⊎ ((P name → ⊥) × (new ≡ old))

-- no more names, and no others
pub record AreFewer (old new : List Bytes) : Type 0 where
  pub size : length new ≤ length old
  pub among : (q : Bytes) → Contains new q → Contains old q
