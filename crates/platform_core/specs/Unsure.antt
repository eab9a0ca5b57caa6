-- Which names are unsure: a put or a removal of such a record failed, and it wasn't looked at since.
use Rattle.std.specs.Prelude.{◌≡◌, ℕ, List, Bool, true, false, if◌then◌else◌, Contains, bytes_eq}
use Rattle.board_model.specs.Disk.{Image}
use Rattle.cabinet.specs.Named.{AreNamed}
use Rattle.platform_core.specs.declared.unsure.Unsure.{Unsure}
use Rattle.platform_core.specs.declared.unsure.Unsure.TheVariants.{Nothing, Name, Anything}

abbrev pub is_unsure : Unsure → List ℕ → Bool
is_unsure Nothing name = false
is_unsure (Name held) name = bytes_eq held name
is_unsure Anything name = true

-- one more name is unsure; where there are two, all are
abbrev pub unsure_with : Unsure → List ℕ → Unsure
unsure_with Nothing name = Name name
unsure_with (Name held) name = if bytes_eq held name then Name held else Anything
unsure_with Anything name = Anything

-- the name was looked at
abbrev pub unsure_without : Unsure → List ℕ → Unsure
unsure_without Nothing name = Nothing
unsure_without (Name held) name = if bytes_eq held name then Nothing else Name held
unsure_without Anything name = Anything

-- the names that are held, and which are unsure
pub record Memory : Type 0 where
  pub names : List (List ℕ)
  pub unsure : Unsure

-- The names are those of the records that are there, and besides only unsure ones.
pub record NamesKnown (now : Image) (memory : Memory) : Type 0 where
  pub doubtful : List (List ℕ)
  pub named : AreNamed doubtful now memory.names
  pub covered : (q : List ℕ) → Contains doubtful q → is_unsure memory.unsure q ≡ true
