-- How the entries of a book moved the account's state, each by the device steps of its own turn.
use Rattle.std.specs.Prelude.{◌≡◌, ℕ, ◌%◌, ◌^◌, List, [], ◌∷◌, ◌++◌}
use Rattle.home_image.specs.Chain.{steps_of, place_of}
use Rattle.share_api.specs.declared.step.Step.{Step}
use Rattle.home_locks.specs.declared.account.Entry.{Entry}

-- What turns T do to states X by their own device steps.
module _ {T X : Type 0} (moves : X → T → List Step → X → Type 0) where
  -- These steps were the entry's own: they end at its place, and the turn moved the state by them.
  pub record EntryMoves (before : X) (own : List (ℕ × Step)) (entry : Entry T) (after : X) : Type 0 where
    pub place : entry.place ≡ place_of own % 2 ^ 64
    pub moved : moves before entry.turn (steps_of own) after

  -- The entries led from one state to another, each by its own steps. These follow one another in `own`, which has no
  -- others.
  abbrev pub BookMoves : X → List (ℕ × Step) → List (Entry T) → X → Type 0
  BookMoves before own [] after = (own ≡ []) × (after ≡ before)
  BookMoves before own (entry ∷ book) after = (made : List (ℕ × Step)) × (rest : List (ℕ × Step)) × (next : X)
      × (own ≡ made ++ rest) × EntryMoves before made entry next × BookMoves next rest book after
