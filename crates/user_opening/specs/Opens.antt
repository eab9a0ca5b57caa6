-- What opening an account does.
use Rattle.std.specs.Prelude.{◌≡◌, ℕ, List, [], None, Result, Ok, Err, IfOk, IsErrOf, is_some}
use Rattle.account_machine.specs.User.{opened}
use Rattle.account_machine.specs.declared.user.Durable.{Durable}
use Rattle.home_recovery.specs.Recovers.{Recovers}
use Rattle.home_recovery.specs.Told.{lost_tree}
use Rattle.random_values.specs.Stretches.{Place}
use Rattle.share_api.specs.Contents.{Bytes, Contents}
use Rattle.share_api.specs.Folds.{Fold, Throughout}
use Rattle.share_api.specs.Seen.{ShareSeen}
use Rattle.share_api.specs.Steps.{Does}
use Rattle.share_api.specs.declared.step.Step.{Step}
use Rattle.stored_home.specs.Holds.{Keys, HoldsUnder}
use Rattle.stored_home.specs.declared.fault.StoreFault.{StoreFault}
use Rattle.stored_home.specs.declared.fault.StoreFault.TheVariants as faults
use Rattle.stored_home.specs.declared.stored.Stored.{Stored}
use Rattle.user_state.specs.Fits.{Fits, is_lost}
use Rattle.user_state.specs.declared.state.UserState.{UserState}
use Rattle.user_turn.specs.Acts.{IsSteady}

-- the account's state as an opening leaves it: no doubt, no session, nothing mounted
abbrev pub opened_state : Bytes → ℕ → ℕ → Place → Stored → UserState
opened_state account cost moment generator stored = record {
  account = account;
  cost = cost;
  stored = stored;
  doubt = None;
  sessions = record { kept = []; next = 1 };
  vault = None;
  last = moment;
  generator = generator;
}

-- what was recovered, or the fault of recovering
abbrev pub recovered : Result UserState StoreFault → Result Stored StoreFault
recovered (Ok state) = Ok state.stored
recovered (Err fault) = Err fault

-- the state is that of the user who is opened with this durable part, and the contents hold it
pub record IsOpened (state : UserState) (new : Contents) (durable : Durable) (moment : ℕ) (keys : Keys) : Type 0 where
  pub fits : Fits state new (opened durable moment) keys
  pub holds : HoldsUnder (is_lost state) new state.account durable keys

-- what an opening owes, by its steps, of contents that hold a durable part before them
pub record OpensOver (old : ShareSeen) (steps : List Step) (account : Bytes) (moment : ℕ)
    (result : Result UserState StoreFault) (contents : Contents) (durable : Durable) (keys : Keys) : Type 0 where
  -- what is held stays held throughout
  pub throughout : Throughout (Does old.era) (λ c. HoldsUnder (is_some old.lost) c account durable keys) contents steps
  pub opened : IfOk result (λ state. (new : Contents) → Fold (Does old.era) contents steps new
      → IsOpened state new durable moment keys)
  -- it isn't told damaged
  pub safe : (name : Bytes) (new : Contents) → Fold (Does old.era) contents steps new
      → IsErrOf result (faults.Damaged name) → ⊥

-- An account is opened: its records are recovered, and the state is settled, with what was recovered.
pub record OpensUser (old new : ShareSeen) (account : Bytes) (cost moment : ℕ) (generator : Place)
    (result : Result UserState StoreFault) : Type 0 where
  -- which steps were made, at most how many, what each fault says, and what is loaded
  pub recovers : Recovers old new account (recovered result)
  -- whatever the contents are
  pub state : IfOk result (λ state. state ≡ opened_state account cost moment generator state.stored)
  pub lost : IfOk result (λ state. state.stored.lost ≡ lost_tree old.lost)
  pub steady : IfOk result IsSteady
  pub right : (contents : Contents) (durable : Durable) (keys : Keys)
      → HoldsUnder (is_some old.lost) contents account durable keys
      → OpensOver old recovers.steps account moment result contents durable keys
