-- What a contract sees of a share, and what its calls do to that.
use Rattle.std.specs.Prelude.{◌≡◌, ◌⊎◌, ℕ, ◌+◌, ◌%◌, ◌^◌, List, [], ◌∷◌, ◌++◌, Option, length}
use Rattle.std.specs.List.{AllByRecursion}
use Rattle.fault_count.specs.Causes.{HasCause}
use Rattle.share_api.specs.Contents.{Bytes}
use Rattle.pw_types.specs.declared.era.Era.{Era}
use Rattle.share_api.specs.Places.{steps_of, place_after}
use Rattle.share_api.specs.Steps.{Follows, AllDone}
use Rattle.share_api.specs.declared.step.Op.{Op}
use Rattle.share_api.specs.declared.step.Reply.{Reply}
use Rattle.share_api.specs.declared.step.Step.{Step}
use Rattle.share_api.specs.declared.step.Write.{Write}
use Rattle.share_api.specs.declared.step.Reply.TheVariants.{Failed}

-- All that a contract sees of a share: whose it is, the steps that it made, each with its place, and the
-- number of the platform's steps up to and with the last of them. It says nothing of contents: steps and
-- replies do.
pub record ShareSeen : Type 0 where
  -- the account's place in the run
  pub account : ℕ
  -- the account's name, where the share knows it
  pub owner : Option Bytes
  -- its steps so far, each with its place in the chain of all accounts' steps
  pub own : List (ℕ × Step)
  pub place : ℕ
  -- how often it has failed
  pub faults : ℕ
  pub era : Era
  -- how many calls may be made before the next stock
  pub spare : ℕ
  -- the host's root and the chip's, where the tree is lost
  pub lost : Option (Bytes × Bytes)

-- the share's step with this reply
abbrev pub step_of : ShareSeen → ℕ → Op → Reply → Step
step_of seen moment op reply = record { account = seen.account; moment = moment; op = op; reply = reply }

-- a call of the share made this step
pub record Makes (old new : ShareSeen) (step : Step) : Type 0 where
  pub at : ℕ
  pub own : new.own ≡ old.own ++ (at, step) ∷ []
  pub place : new.place ≡ (at + 1) % 2 ^ 64
  pub mine : step.account ≡ old.account
  pub account : new.account ≡ old.account
  pub owner : new.owner ≡ old.owner
  pub era : new.era ≡ old.era
  pub lost : new.lost ≡ old.lost
  pub spare : new.spare + 1 ≡ old.spare
  pub cause : HasCause old.faults new.faults (step.reply ≡ Failed)

abbrev pub HasFailed : List Step → Type 0
HasFailed [] = ⊥
HasFailed (step ∷ steps) = (step.reply ≡ Failed) ⊎ HasFailed steps

-- the share made these steps
pub record Runs (old new : ShareSeen) (steps : List Step) : Type 0 where
  pub own : List (ℕ × Step)
  pub own_is : new.own ≡ old.own ++ own
  pub steps_are : steps_of own ≡ steps
  pub place : new.place ≡ place_after old.place own
  pub mine : AllByRecursion (λ step. step.account ≡ old.account) steps
  pub account : new.account ≡ old.account
  pub owner : new.owner ≡ old.owner
  pub era : new.era ≡ old.era
  pub lost : new.lost ≡ old.lost
  pub spare : new.spare + length steps ≡ old.spare
  pub cause : HasCause old.faults new.faults (HasFailed steps)

-- The changes were tried in order, and the trial ended at the first that wasn't done.
pub record Tries (old new : ShareSeen) (writes : List Write) (ok err : Type 0) : Type 0 where
  pub steps : List Step
  pub runs : Runs old new steps
  pub follows : Follows writes steps
  pub all : ok → AllDone writes steps
  pub fails : err → HasFailed steps
