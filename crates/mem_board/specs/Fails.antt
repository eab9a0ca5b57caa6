-- The calls that fail, by their numbers.
use Rattle.std.specs.Prelude.{ℕ, List, [], ◌∷◌, cond, nat_eq}
use Rattle.mem_board.specs.declared.change.Outcome.{Outcome}
use Rattle.mem_board.specs.declared.change.Outcome.TheVariants.{Done, FailedDone, FailedNot}
use Rattle.mem_board.specs.declared.fail.Fail.{Fail}

abbrev pub outcome_of : Fail → Outcome
outcome_of fail = cond fail.done FailedDone FailedNot

-- how the call of a number ends: as the first entry for it says, and else done
abbrev pub listed_at : List Fail → ℕ → Outcome
listed_at [] number = Done
listed_at (fail ∷ fails) number =
    cond (nat_eq fail.call number) (outcome_of fail) (listed_at fails number)
