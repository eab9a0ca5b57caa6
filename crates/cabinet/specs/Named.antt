-- Which names are held: those of the records that are there, and besides only unsure ones.
use Rattle.std.specs.Prelude.{◌⊎◌, ℕ, Bool, List, ◌∷◌, Contains, IsSome, IfSome, bytes_eq, if◌then◌else◌}
use Rattle.std.specs.List.{IsDistinct}
use Rattle.std.specs.FinMap.{get}
use Rattle.board_model.specs.Disk.{Image, Disk}
use Rattle.record_names.specs.Names.{IsRecordName}
use Rattle.cabinet.specs.Names.{without_name}

-- a file with this name is there
abbrev pub IsThere : Image → List ℕ → Type 0
IsThere now name = IsSome (get now.files name)

-- The names, against what is there now. A name is unsure from a put or a removal of its record that
-- failed, until the next put, removal or read of it that doesn't fail.
pub record AreNamed (unsure : List (List ℕ)) (now : Image) (names : List (List ℕ)) : Type 0 where
  -- none stands twice
  pub once : IsDistinct bytes_eq names
  -- each record that is there is named
  pub every : (q : List ℕ) → IsRecordName q → IsThere now q → Contains names q
  -- each name is that of a record that is there, or an unsure one
  pub only : (q : List ℕ) → Contains names q → IsRecordName q × (IsThere now q ⊎ Contains unsure q)

-- the same of a board, where it tells its content
abbrev pub HasNames : List (List ℕ) → Disk → List (List ℕ) → Type 0
HasNames unsure disk names = IfSome disk.now (λ now. AreNamed unsure now names)

-- the unsure names after a put or a removal, which was Ok or failed
abbrev pub unsure_changed : Bool → List ℕ → List (List ℕ) → List (List ℕ)
unsure_changed ok name unsure = if ok then without_name unsure name else name ∷ unsure

-- the unsure names after a read
abbrev pub unsure_read : Bool → List ℕ → List (List ℕ) → List (List ℕ)
unsure_read ok name unsure = if ok then without_name unsure name else unsure

-- whatever names were unsure before, the names are right then with those that are unsure after
abbrev pub KeepsNames : (List (List ℕ) → List (List ℕ)) → Disk → List (List ℕ) → Disk → List (List ℕ) → Type 0
KeepsNames after old held new names = (unsure : List (List ℕ)) → HasNames unsure old held → HasNames (after unsure) new names
