-- What a turn is to its states and its device steps.
use Rattle.std.specs.Prelude.{◌≡◌, ℕ, List, ◌++◌, Contains}
use Rattle.fault_count.specs.Causes.{HasCause}
use Rattle.home_image.specs.Book.{Made, Turns}
use Rattle.home_image.specs.Settled.{IsStateOf}
use Rattle.share_api.specs.Places.{steps_of, place_after}
use Rattle.share_api.specs.Seen.{ShareSeen, HasFailed}
use Rattle.share_api.specs.declared.step.Step.{Step}
use Rattle.home_locks.specs.Meanings.{Rules, meaning_of}
use Rattle.home_locks.specs.declared.account.Entry.{Entry}

-- The share made these steps more, each with its place, and took memory for others or not.
pub record StepsOn (old new : ShareSeen) (own : List (ℕ × Step)) : Type 0 where
  pub own_is : new.own ≡ old.own ++ own
  pub place : new.place ≡ place_after old.place own
  pub cause : HasCause old.faults new.faults (HasFailed (steps_of own))

-- the entry of a turn, with its device steps
abbrev pub made_of : {T : Type 0} → ℕ → T → ℕ → List (ℕ × Step) → Made Step (Entry T)
made_of client turn place own =
    record { entry = record { client = client; turn = turn; place = place }; own = own }

module _ {C D U T X : Type 0} (rules : Rules C D U T X) where
  -- What a turn is to the states before and after it, whatever contents the account's device steps may have led
  -- to. Its own steps are those that the share made.
  pub record ActStands (before after : X) (turn : T) (old new : ShareSeen) : Type 0 where
    pub own : List (ℕ × Step)
    pub steps : StepsOn old new own
    pub moved : rules.moves before turn (steps_of own) after
    pub right : (client place : ℕ) (seen : List C) (contents : C) (user : U)
        → Contains seen contents
        → rules.clean seen user turn
        → IsStateOf (meaning_of rules) before contents user
        → Turns (meaning_of rules) seen (IsStateOf (meaning_of rules) after) (made_of client turn place own)
        contents user
