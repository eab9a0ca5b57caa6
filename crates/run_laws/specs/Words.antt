-- What the books of a run say of its words and of the desk's entropy.
use Rattle.std.specs.Prelude.{ℕ, List}
use Rattle.std.specs.List.{AllByRecursion}
use Rattle.home_edits.specs.Costs.{HasCost}
use Rattle.home_locks.specs.declared.account.Entry.{Entry}
use Rattle.home_opening.specs.Opened.{generator_of}
use Rattle.home_opening.specs.declared.opening.Opening.{Opening}
use Rattle.share_api.specs.Contents.{Bytes}
use Rattle.share_api.specs.Places.{steps_of}
use Rattle.share_api.specs.declared.step.Step.{Step}
use Rattle.turn_meaning.specs.Words.{TellsStretch}
use Rattle.turn_meaning.specs.declared.taken.TurnTaken.{TurnTaken}

-- Each factor's record that the steps put has the cost that the accounts are opened with, and each token's tail is a
-- stretch of the generator that the entropy gives to the account of this name.
pub record KeepsToOpening (opening : Opening) (name : Bytes) (own : List (ℕ × Step)) (book : List (Entry TurnTaken))
    : Type 0 where
  pub costs : AllByRecursion (HasCost name opening.cost) (steps_of own)
  pub tails : AllByRecursion (TellsStretch (generator_of opening.entropy.now name).key) book
