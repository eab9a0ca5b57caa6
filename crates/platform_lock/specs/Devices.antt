-- What a contract sees of a platform, and what a platform behind its lock is to the one that the lock was made with.
use Rattle.std.specs.Prelude.{◌≡◌, ◌⊎◌, ℕ, zero, suc, ◌<◌, List, [], ◌∷◌, get_or, length, Option, None}
use Rattle.fault_count.specs.Causes.{HasCause}
use Rattle.pw_types.specs.declared.era.Era.{Era}
use Rattle.share_api.specs.Contents.{Bytes}
use Rattle.share_api.specs.Folds.{Fold}
use Rattle.share_api.specs.declared.step.Reply.TheVariants.{Failed}
use Rattle.share_api.specs.declared.step.Step.{Step}

-- All that a contract sees of a platform beside its steps.
pub record DeviceSeen : Type 0 where
  -- the accounts' names by the accounts' numbers, where they are known
  pub owners : List (Option Bytes)
  pub era : Era
  -- the host's root and the chip's, where the tree is lost
  pub lost : Option (Bytes × Bytes)
  -- how often it has failed
  pub faults : ℕ

-- the name of the account with this number, where it is known
abbrev pub owner_at : DeviceSeen → ℕ → Option Bytes
owner_at device account = get_or device.owners account None

-- the platform has an account with this number
abbrev pub HasAccount : DeviceSeen → ℕ → Type 0
HasAccount device account = account < length device.owners

-- the account a step is of
abbrev pub account_of : Step → ℕ
account_of step = step.account

-- what no step changes
pub record IsSameDevice (old new : DeviceSeen) : Type 0 where
  pub owners : new.owners ≡ old.owners
  pub era : new.era ≡ old.era
  pub lost : new.lost ≡ old.lost

-- the count rose in each step that failed, and stayed in the others
abbrev pub FaultsRose : ℕ → List Step → ℕ → Type 0
FaultsRose before chain now = Fold (λ old step new. HasCause old new (step.reply ≡ Failed)) before chain now

-- at least so many of the steps failed
abbrev pub HaveFailed : ℕ → List Step → Type 0
HaveFailed zero steps = Unit {0}
HaveFailed (suc n) [] = ⊥
HaveFailed (suc n) (step ∷ steps) = HaveFailed (suc n) steps ⊎ ((step.reply ≡ Failed) × HaveFailed n steps)

module _ {D : Type 0} (seen_of : D → DeviceSeen) (stands : D → D → List Step → Type 0) where
  -- The platform stands to the first one and the steps since, is of the same accounts, era and tree, and has
  -- failed in the steps that say so.
  pub record IsServed (first now : D) (chain : List Step) : Type 0 where
    pub chain_stands : stands first now chain
    pub same : IsSameDevice (seen_of first) (seen_of now)
    pub rose : FaultsRose (seen_of first).faults chain (seen_of now).faults
