-- What a reload does.
use Rattle.std.specs.Prelude.{◌≡◌, ◌⊎◌, ◌+◌, ◌≤◌, List, [], None, Some, Result, Ok, Err, IfOk, IsOk, IsErr, IsErrOf, length}
use Rattle.std.specs.List.{AllByRecursion}
use Rattle.account_machine.specs.Step.{reload_of}
use Rattle.account_machine.specs.declared.entry.Told.{Told}
use Rattle.account_machine.specs.declared.entry.Told.TheVariants as told_as
use Rattle.account_machine.specs.declared.user.Durable.{Durable}
use Rattle.account_machine.specs.declared.user.User.{User}
use Rattle.share_api.specs.Contents.{Bytes, Contents}
use Rattle.share_api.specs.Folds.{Fold, Throughout}
use Rattle.share_api.specs.Seen.{ShareSeen, HasFailed}
use Rattle.share_api.specs.Steps.{Does}
use Rattle.share_api.specs.declared.step.Op.TheVariants.{Do}
use Rattle.share_api.specs.declared.step.Step.{Step}
use Rattle.share_api.specs.declared.step.Write.TheVariants.{Put}
use Rattle.stored_home.specs.Holds.{Keys, HoldsUnder}
use Rattle.stored_home.specs.declared.fault.StoreFault.{StoreFault}
use Rattle.stored_home.specs.declared.fault.StoreFault.TheVariants as faults
use Rattle.stored_home.specs.declared.stored.Stored.{Stored}
use Rattle.home_recovery.specs.Damage.{IsDamaged}
use Rattle.home_recovery.specs.Reading.{RunsOver}
use Rattle.home_recovery.specs.Recovers.{listed_first}
use Rattle.user_state.specs.Fits.{Fits, is_lost}
use Rattle.user_state.specs.Sound.{IsSound}
use Rattle.user_state.specs.Turns.{KeepsAccount}
use Rattle.user_state.specs.declared.state.UserState.{UserState}

-- the state is settled, with what was loaded
abbrev pub settled_with : UserState → Stored → UserState
settled_with before stored = record before { stored = stored; doubt = None }

-- The contents are of a user whom the state fits, and hold one of the user's possible durable parts.
pub record IsUnsettledOver (before : UserState) (contents : Contents) (user : User) (held : Durable) (keys : Keys)
    : Type 0 where
  pub fits : Fits before contents user keys
  pub which : (held ≡ user.durable) ⊎ (user.other ≡ Some held)
  pub holds : HoldsUnder (is_lost before) contents before.account held keys

-- The state is that of the user whom the machine's reload gives, and the contents hold that user's durable part: the
-- one that was held.
pub record IsReloaded (after : UserState) (user : User) (held : Durable) (keys : Keys) (told : Told) (new : Contents)
    : Type 0 where
  pub next : User
  pub reloaded : reload_of user told user.other ≡ Some next
  pub durable : next.durable ≡ held
  pub fits : Fits after new next keys
  pub holds : HoldsUnder (is_lost after) new after.account next.durable keys

-- how a reload ends, over contents after its steps
abbrev pub EndsBy : Result Told StoreFault → UserState → User → Durable → Keys → Contents → Type 0
EndsBy (Ok told) after user held keys new = IsReloaded after user held keys told new
EndsBy (Err fault) after user held keys new = IsUnsettledOver after new user held keys

-- what a reload owes of contents, by its steps
pub record ReloadsOver (old : ShareSeen) (steps : List Step) (before after : UserState)
    (result : Result Told StoreFault) (contents : Contents) (user : User) (held : Durable) (keys : Keys) : Type 0 where
  -- what is held stays held throughout
  pub throughout : Throughout (Does old.era) (λ c. HoldsUnder (is_lost before) c before.account held keys) contents
      steps
  pub ends : (new : Contents) → Fold (Does old.era) contents steps new → EndsBy result after user held keys new
  -- it isn't told damaged
  pub safe : (name : Bytes) (new : Contents) → Fold (Does old.era) contents steps new
      → IsErrOf result (faults.Damaged name) → ⊥

-- the step puts no record
abbrev pub PutsNone : Step → Type 0
PutsNone step = (name bytes : Bytes) → step.op ≡ Do (Put name bytes) → ⊥

-- The reload of an unsettled account, of whatever contents its steps fit.
pub record Reloads (old new : ShareSeen) (before after : UserState) (result : Result Told StoreFault) : Type 0 where
  pub steps : List Step
  pub runs : RunsOver old new steps
  -- recovering, and one read
  pub few : length steps ≤ 68 + listed_first steps
  pub spare : old.spare ≤ new.spare + length steps
  pub fails : IsErrOf result faults.Failed → HasFailed steps
  pub made : IsOk result → steps ≡ [] → ⊥
  pub told : IfOk result (λ told. (told ≡ told_as.Before) ⊎ (told ≡ told_as.After))
  pub settles : IsOk result → after ≡ settled_with before after.stored
  pub stays : IsErr result → after ≡ before
  pub keeps : KeepsAccount before after
  pub sound : IsSound before → IsSound after
  -- nothing is put
  pub puts : AllByRecursion PutsNone steps
  -- what is told damaged is so, in whatever contents the steps lead to
  pub damaged : (name : Bytes) → IsErrOf result (faults.Damaged name) → (contents new : Contents)
      → Fold (Does old.era) contents steps new → IsDamaged (is_lost before) new before.account name
  pub right : (contents : Contents) (user : User) (held : Durable) (keys : Keys)
      → IsUnsettledOver before contents user held keys
      → ReloadsOver old steps before after result contents user held keys
