-- Opening, put together.
use Rattle.std.proofs.Common.{◌≡◌, ◌≤◌, ◌<◌, ◌^◌, ℕ, [], Result, Ok, Err, is_some, refl, sym, ap, subst, arith}
use Rattle.std.specs.Prelude.{IsTrue}
use Rattle.account_machine.specs.declared.user.Durable.{Durable}
use Rattle.auth_session.specs.Table.{Table}
use Rattle.home_recovery.specs.Recovers.{Recovers}
use Rattle.home_recovery.proofs.CallLemmas.{same_fault}
use Rattle.home_recovery.proofs.HomeLemmas.{loss_is}
use Rattle.home_recovery.proofs.LoadLemmas.{loads_starved}
use Rattle.home_recovery.proofs.RecoverLemmas.{recovers_fault}
use Rattle.random_values.specs.Stretches.{Place}
use Rattle.record_names.specs.Names.{is_account_name}
use Rattle.share_api.specs.Contents.{Bytes, Contents}
use Rattle.share_api.specs.Folds.{Fold}
use Rattle.share_api.specs.Seen.{ShareSeen}
use Rattle.share_api.specs.Steps.{Does}
use Rattle.share_api.proofs.FoldLaws.{throughout_end}
use Rattle.stored_home.specs.Holds.{Keys, HoldsUnder}
use Rattle.stored_home.specs.Loaded.{IsKept}
use Rattle.stored_home.specs.declared.fault.StoreFault.{StoreFault}
use Rattle.stored_home.specs.declared.fault.StoreFault.TheVariants as faults
use Rattle.stored_home.specs.declared.stored.Stored.{Stored}
use Rattle.user_state.specs.declared.state.UserState.{UserState}
use Rattle.user_opening.specs.Opens.{opened_state, IsOpened, OpensUser}

-- the one fault as that of recovering
err_as : (e f : StoreFault) → ◌≡◌ {A = Result UserState StoreFault} (Err e) (Err f)
    → ◌≡◌ {A = Result Stored StoreFault} (Err e) (Err f)
err_as e f same = ap Err (same_fault e f same)

ok_no_err : (state : UserState) (f : StoreFault) → ◌≡◌ {A = Result UserState StoreFault} (Ok state) (Err f) → ⊥
ok_no_err state f e = cc

module _ (old new : ShareSeen) (account : Bytes) (cost moment : ℕ) (generator : Place) where
  -- the account wasn't recovered
  pub opens_fault : (fault : StoreFault) → Recovers old new account (Err fault)
      → OpensUser old new account cost moment generator (Err fault)
  opens_fault fault rec = record {
    recovers = rec;
    state = tt;
    lost = tt;
    steady = tt;
    right = λ contents durable keys holds. record {
      throughout = rec.kept contents durable keys holds;
      opened = tt;
      safe = λ name c fold e.
          rec.safe name (err_as fault (faults.Damaged name) e) contents c durable keys fold holds;
    };
  }

  module _ (stored : Stored) (rec : Recovers old new account (Ok stored)) where
    abbrev state : UserState
    state = opened_state account cost moment generator stored

    same_lost : is_some stored.lost ≡ is_some old.lost
    same_lost = loss_is old.lost stored.lost rec.lost

    is_opened : (contents c : Contents) (durable : Durable) (keys : Keys)
        → HoldsUnder (is_some old.lost) contents account durable keys
        → Fold (Does old.era) contents rec.steps c
        → IsOpened state c durable moment keys
    is_opened contents c durable keys holds fold = record {
      fits = record {
        sessions = refl;
        next_session = refl;
        mounted = refl;
        last = refl;
        stands = record {
          none = refl;
          kept = subst (λ b. IsKept b c account stored) (sym same_lost) (rec.loaded contents c fold).0;
          files = rec.coherent.files;
        };
        has_keys = record { proved = tt; mount = tt };
      };
      holds = subst (λ b. HoldsUnder b c account durable keys) (sym same_lost)
          (throughout_end (Does old.era) (λ c. HoldsUnder (is_some old.lost) c account durable keys) contents c
          rec.steps (rec.kept contents durable keys holds) fold);
    }

    -- the account was recovered, and this is its state
    opens_state : IsTrue (is_account_name account) → 1 ≤ cost → cost ≤ 16 → moment < 2 ^ 40
        → OpensUser old new account cost moment generator (Ok state)
    opens_state plain least most timely = record {
      recovers = rec;
      state = refl;
      lost = rec.lost;
      steady = record {
        plain = plain;
        moment = timely;
        sound = record { coherent = rec.coherent; least = least; most = most; keyed = tt };
        tellable = tt;
      };
      right = λ contents durable keys holds. record {
        throughout = rec.kept contents durable keys holds;
        opened = λ c fold. is_opened contents c durable keys holds fold;
        safe = λ name c fold e. ok_no_err state (faults.Damaged name) e;
      };
    }

    -- the same, of the table of sessions and the generator as they are made
    pub opens_recovered : IsTrue (is_account_name account) → 1 ≤ cost → cost ≤ 16 → moment < 2 ^ 40
        → (sessions : Table) (given : Place)
        → sessions ≡ record { kept = []; next = 1 }
        → given ≡ generator
        → OpensUser old new account cost moment generator
        (Ok (record (opened_state account cost moment given stored) { sessions = sessions }))
    opens_recovered plain least most timely sessions given none own =
        subst (λ (t : Table × Place). OpensUser old new account cost moment generator
        (Ok (record (opened_state account cost moment t.1 stored) { sessions = t.0 })))
        (λ i. (sym none i, sym own i)) (opens_state plain least most timely)

-- there was no memory, and no step was made
pub opens_starved : (seen : ShareSeen) (account : Bytes) (cost moment : ℕ) (generator : Place)
    → OpensUser seen seen account cost moment generator (Err faults.NoMemory)
opens_starved seen account cost moment generator =
    opens_fault seen seen account cost moment generator faults.NoMemory
    (recovers_fault seen seen account faults.NoMemory (loads_starved seen seen account refl (omega arith)))
