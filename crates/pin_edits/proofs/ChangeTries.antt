-- A change as a try, where the tree isn't lost.
use Rattle.std.proofs.Common.{◌≡◌, ℕ, List, [], ◌∷◌, Option, None, Result, Ok, Err, IsOk, IsErr, refl, sym, ap, ◌∙◌, subst, true≢false}
use Rattle.std.specs.Prelude.{IfErr, IsErrOf}
use Rattle.share_api.specs.Conditions.{IsLeafFault, TellsLoss}
use Rattle.share_api.specs.Contents.{Bytes}
use Rattle.share_api.specs.Replies.{done_reply, label_reply}
use Rattle.share_api.specs.Seen.{ShareSeen, Makes, Tries, step_of}
use Rattle.share_api.specs.declared.fault.ShareFault.{ShareFault}
use Rattle.share_api.specs.declared.fault.ShareFault.TheVariants as faults
use Rattle.share_api.specs.declared.step.Op.{Op}
use Rattle.share_api.specs.declared.step.Op.TheVariants.{Do}
use Rattle.share_api.specs.declared.step.Reply.{Reply}
use Rattle.share_api.specs.declared.step.Write.{Write}
use Rattle.share_api.proofs.TryLaws.{write_tries}
use Rattle.stored_home.specs.declared.fault.StoreFault.{StoreFault}
use Rattle.stored_home.specs.declared.fault.StoreFault.TheVariants.{Failed}
use Rattle.pin_edits.specs.Writes.{ended, inserted, inserted_reply}

-- it is Ok where the call was, and a fault where it was
ended_ok : (tried : Result Unit ShareFault) → IsOk (ended tried) → IsOk tried
ended_ok (Ok nothing) h = refl
ended_ok (Err fault) h = h

ended_err : (tried : Result Unit ShareFault) → IsErr (ended tried) → IsErr tried
ended_err (Ok nothing) h = h
ended_err (Err fault) h = refl

-- its one fault is that it failed
pub ended_only : (tried : Result Unit ShareFault) (result : Result Unit StoreFault) → result ≡ ended tried
    → IsErr result → IsErrOf result Failed
ended_only (Ok nothing) result is h = absurd (true≢false (sym (subst IsErr is h)))
ended_only (Err fault) result is h = is

-- a change of a record, or of a leaf
pub change_tries : (old new : ShareSeen) (moment : ℕ) (write : Write) (tried : Result Unit ShareFault)
    (result : Result Unit StoreFault) → result ≡ ended tried
    → Makes old new (step_of old moment (Do write) (done_reply tried)) → (IsErr tried → IsErrOf tried faults.Failed)
    → Tries old new (write ∷ []) (IsOk result) (IsErr result)
change_tries old new moment write tried result is makes only =
    write_tries old new moment write (IsOk result) (IsErr result) tried (λ o. ended_ok tried (subst IsOk is o))
    (λ e. ended_err tried (subst IsErr is e)) makes only

-- where the tree isn't lost, the fault of a removal of a leaf is that it failed
pub leaf_failed : (lost : Option (Bytes × Bytes)) (tried : Result Unit ShareFault) → lost ≡ None
    → IfErr tried IsLeafFault → TellsLoss lost tried → IsErr tried → IsErrOf tried faults.Failed
leaf_failed lost tried none only tells e = by tried only (subst (λ (o : Option (Bytes × Bytes)). TellsLoss o tried) none tells) e
  where
    by : (r : Result Unit ShareFault) → IfErr r IsLeafFault → TellsLoss None r → IsErr r → IsErrOf r faults.Failed
    by (Ok nothing) only tells e = absurd (true≢false (sym e))
    by (Err faults.Failed) only tells e = refl
    by (Err (faults.TreeLost host chip)) only tells e = absurd (tells host chip refl)
    by (Err (faults.Damaged name)) only tells e = absurd only
    by (Err faults.NoMemory) only tells e = absurd only

-- where the tree isn't lost, an insert that has no label failed
pub inserted_makes : (old new : ShareSeen) (moment : ℕ) (op : Op) (tried : Result ℕ ShareFault)
    (result : Result ℕ StoreFault) → result ≡ inserted tried → old.lost ≡ None → IfErr tried IsLeafFault
    → TellsLoss old.lost tried → Makes old new (step_of old moment op (label_reply tried))
    → Makes old new (step_of old moment op (inserted_reply result))
inserted_makes old new moment op tried result is none only tells makes =
    subst (λ (r : Reply). Makes old new (step_of old moment op r))
    (by tried only (subst (λ (o : Option (Bytes × Bytes)). TellsLoss o tried) none tells) ∙ ap inserted_reply (sym is)) makes
  where
    by : (r : Result ℕ ShareFault) → IfErr r IsLeafFault → TellsLoss None r → label_reply r ≡ inserted_reply (inserted r)
    by (Ok label) only tells = refl
    by (Err faults.Failed) only tells = refl
    by (Err (faults.TreeLost host chip)) only tells = absurd (tells host chip refl)
    by (Err (faults.Damaged name)) only tells = absurd only
    by (Err faults.NoMemory) only tells = absurd only

-- a try as another caller tells how it ended
pub tries_told : (old new : ShareSeen) (writes : List Write) (went err ok failed : Type 0)
    → Tries old new writes went err → (ok → went) → (failed → err) → Tries old new writes ok failed
tries_told old new writes went err ok failed tried goes fails = record {
  steps = tried.steps;
  runs = tried.runs;
  follows = tried.follows;
  all = λ o. tried.all (goes o);
  fails = λ f. tried.fails (fails f);
}

-- a fault that is a failed step, whatever the result would have been
pub fault_same : {A : Type 0} (fault : StoreFault)
    → ◌≡◌ {A = Result A StoreFault} (Err fault) (Err Failed) → fault ≡ Failed
fault_same fault e = cc
