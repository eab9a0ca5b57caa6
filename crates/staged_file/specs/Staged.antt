-- What a staged change of a file leaves.
use Rattle.std.specs.Prelude.{◌≡◌, ◌≢◌, ◌⊎◌, ℕ, List, Option}
use Rattle.std.specs.FinMap.{get}
use Rattle.board_model.specs.Files.{IsTemporary}
use Rattle.board_model.specs.Disk.{Image, Effect}

-- the words, and the files that aren't temporary, stay
pub record Kept (old new : Image) : Type 0 where
  pub words : new.words ≡ old.words
  pub others : (q : List ℕ) → ¬ IsTemporary q → get new.files q ≡ get old.files q

-- one file has this content, or is absent; the words, and the others that aren't temporary, stay
pub record Replaced (name : List ℕ) (content : Option (List ℕ)) (old new : Image) : Type 0 where
  pub words : new.words ≡ old.words
  pub here : get new.files name ≡ content
  pub others : (q : List ℕ) → ¬ IsTemporary q → q ≢ name → get new.files q ≡ get old.files q

-- the effect is there whole, or nothing of it
abbrev pub KeptOr : Effect → Effect
KeptOr R old new = Kept old new ⊎ R old new
