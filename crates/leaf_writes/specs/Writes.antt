-- What the two writes of a call on a leaf leave of an image.
use Rattle.std.specs.Prelude.{◌≡◌, ◌≢◌, ◌⊎◌, ℕ, List, Option}
use Rattle.std.specs.FinMap.{get}
use Rattle.board_model.specs.Files.{IsTemporary}
use Rattle.board_model.specs.Disk.{Image, Disk, Effect, Goes}
use Rattle.staged_file.specs.Staged.{Kept}

-- the words are these, and the files that aren't temporary stay
pub record StoredAlone (words : List ℕ) (old new : Image) : Type 0 where
  pub stored : new.words ≡ words
  pub others : (q : List ℕ) → ¬ IsTemporary q → get new.files q ≡ get old.files q

-- the words are these, one file has this content or is absent, and the others that aren't temporary stay
pub record StoredWith (words name : List ℕ) (content : Option (List ℕ)) (old new : Image) : Type 0 where
  pub stored : new.words ≡ words
  pub here : get new.files name ≡ content
  pub others : (q : List ℕ) → ¬ IsTemporary q → q ≢ name → get new.files q ≡ get old.files q

-- neither write, the words alone, or both
abbrev pub NoneOneOrBoth : List ℕ → List ℕ → Option (List ℕ) → Effect
NoneOneOrBoth words name content old new =
    Kept old new ⊎ StoredAlone words old new ⊎ StoredWith words name content old new

-- What is there goes by one of the three, and so does each image once the directory is synced.
abbrev pub EndsAtOneOf : List ℕ → List ℕ → Option (List ℕ) → Disk → Disk → Type 0
EndsAtOneOf words name content old new =
    Goes old new Kept ⊎ Goes old new (StoredAlone words) ⊎ Goes old new (StoredWith words name content)
