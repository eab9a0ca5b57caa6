-- What opening an account is to the composition of all accounts.
use Rattle.std.specs.Prelude.{◌≡◌, ℕ, List, Result, IfOk, is_some}
use Rattle.account_machine.specs.User.{opened}
use Rattle.account_machine.specs.declared.user.Durable.{Durable}
use Rattle.home_image.specs.Settled.{Opens}
use Rattle.home_locks.specs.Meanings.{meaning_of}
use Rattle.home_locks.specs.Turns.{StepsOn}
use Rattle.share_api.specs.Contents.{Bytes}
use Rattle.share_api.specs.Folds.{Throughout}
use Rattle.share_api.specs.Places.{steps_of}
use Rattle.share_api.specs.Seen.{ShareSeen}
use Rattle.share_api.specs.declared.step.Step.{Step}
use Rattle.stored_home.specs.declared.fault.StoreFault.{StoreFault}
use Rattle.user_state.specs.declared.state.UserState.{UserState}
use Rattle.turn_meaning.specs.Meanings.{Part, DoesPart, HoldsPart, user_rules}

-- What an opening is to a part that the account has, and to a durable part that it holds. That is held throughout the
-- steps, whatever the opening is answered, and where the account is opened they open the user with it.
pub record OpensPart (old : ShareSeen) (steps : List Step) (moment : ℕ) (result : Result UserState StoreFault)
    (part : Part) (durable : Durable) : Type 0 where
  pub held : Throughout (DoesPart old.era) (λ now. HoldsPart now durable) part steps
  pub opens : IfOk result (λ state. Opens (meaning_of (user_rules old.era)) state steps part (opened durable moment))

-- What an opening is to its state and its device steps, which are those that the share made.
pub record OpenStands (old new : ShareSeen) (account : Bytes) (moment : ℕ) (result : Result UserState StoreFault)
    : Type 0 where
  pub own : List (ℕ × Step)
  pub steps : StepsOn old new own
  pub right : (part : Part) (durable : Durable)
      → part.account ≡ account
      → part.lost ≡ is_some old.lost
      → HoldsPart part durable
      → OpensPart old (steps_of own) moment result part durable
