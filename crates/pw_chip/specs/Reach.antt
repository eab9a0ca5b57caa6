-- Words that calls and boots lead to.
use Rattle.std.specs.Prelude.{◌≡◌, List}
use Rattle.pw_chip.specs.State.{ChipState}
use Rattle.pw_chip.specs.Ledger.{Event}
use Rattle.pw_chip.specs.Law.{AreEvents}
use Rattle.pw_chip.specs.History.{words_in_the_end}

-- some calls and boots lead from these words to those
pub record IsReached (from to : ChipState) : Type 0 where
  pub events : List Event
  pub are : AreEvents events
  pub leads : words_in_the_end from events ≡ to
