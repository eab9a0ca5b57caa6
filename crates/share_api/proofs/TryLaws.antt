-- Calls of a share as tries of a list of changes.
use Rattle.std.proofs.Common.{◌≡◌, ℕ, List, [], ◌∷◌, ◌++◌, Result, Ok, Err, refl, sym, ◌∙◌, subst, inl, inr, ⊎_elim, IsOk, IsErr, true≢false}
use Rattle.std.specs.Prelude.{IsErrOf}
use Rattle.share_api.specs.Steps.{ThenReply, Follows, AllDone}
use Rattle.share_api.specs.declared.step.Write.{Write}
use Rattle.share_api.specs.declared.step.Step.{Step}
use Rattle.share_api.specs.declared.step.Reply.{Reply}
use Rattle.share_api.specs.Seen.{ShareSeen, Makes, Tries, HasFailed, step_of}
use Rattle.share_api.specs.Replies.{done_reply}
use Rattle.share_api.specs.declared.step.Op.TheVariants.{Do}
use Rattle.share_api.specs.declared.step.Reply.TheVariants.{Done, Found, Listed, Labelled, Tried, Fits, Viewed, TreeLost, Damaged, Failed, NoMemory}
use Rattle.share_api.specs.declared.fault.ShareFault.{ShareFault}
use Rattle.share_api.specs.declared.fault.ShareFault.TheVariants as faults
use Rattle.share_api.proofs.RunLaws.{runs_one, runs_then}

module _ (old new : ShareSeen) (moment : ℕ) (write : Write) where
  -- one change that is done
  done_tries : (ok err : Type 0) → (err → ⊥) → Makes old new (step_of old moment (Do write) Done) → Tries old new (write ∷ []) ok err
  done_tries ok err none h = record {
    steps = step_of old moment (Do write) Done ∷ [];
    runs = runs_one old new (step_of old moment (Do write) Done) h;
    follows = (refl, tt);
    all = λ _. (refl, refl, tt);
    fails = λ k. absurd (none k);
  }

  -- one change that failed
  failed_tries : (ok err : Type 0) → (ok → ⊥) → Makes old new (step_of old moment (Do write) Failed) → Tries old new (write ∷ []) ok err
  failed_tries ok err none h = record {
    steps = step_of old moment (Do write) Failed ∷ [];
    runs = runs_one old new (step_of old moment (Do write) Failed) h;
    follows = (refl, refl);
    all = λ k. absurd (none k);
    fails = λ _. inl refl;
  }

  -- one change, where the tree is lost
  lost_tries : (ok err : Type 0) → (ok → ⊥) → (err → ⊥) → Makes old new (step_of old moment (Do write) TreeLost) → Tries old new (write ∷ []) ok err
  lost_tries ok err not_ok not_err h = record {
    steps = step_of old moment (Do write) TreeLost ∷ [];
    runs = runs_one old new (step_of old moment (Do write) TreeLost) h;
    follows = (refl, refl);
    all = λ k. absurd (not_ok k);
    fails = λ k. absurd (not_err k);
  }

  -- one change of a record, whichever way the caller tells how it ended
  pub write_tries : (ok err : Type 0) (result : Result Unit ShareFault) → (ok → IsOk result) → (err → IsErr result) → Makes old new (step_of old moment (Do write) (done_reply result)) → (IsErr result → IsErrOf result faults.Failed)
      → Tries old new (write ∷ []) ok err
  write_tries ok err (Ok u) isOk isErr h only = done_tries ok err (λ k. true≢false (sym (isErr k))) h
  write_tries ok err (Err faults.Failed) isOk isErr h only = failed_tries ok err (λ k. true≢false (sym (isOk k))) h
  write_tries ok err (Err (faults.TreeLost host chip)) isOk isErr h only =
      let e : ◌≡◌ {A = Result Unit ShareFault} (Err (faults.TreeLost host chip)) (Err faults.Failed) = only refl in absurd (cc e)
  write_tries ok err (Err (faults.Damaged name)) isOk isErr h only =
      let e : ◌≡◌ {A = Result Unit ShareFault} (Err (faults.Damaged name)) (Err faults.Failed) = only refl in absurd (cc e)
  write_tries ok err (Err faults.NoMemory) isOk isErr h only =
      let e : ◌≡◌ {A = Result Unit ShareFault} (Err faults.NoMemory) (Err faults.Failed) = only refl in absurd (cc e)

-- some of the steps failed, so not all changes are done
pub failed_not_all : (writes : List Write) (steps : List Step) → HasFailed steps → AllDone writes steps → ⊥
failed_not_all [] [] h a = h
failed_not_all [] (step ∷ steps) h a = a
failed_not_all (write ∷ writes) [] h a = a
failed_not_all (write ∷ writes) (step ∷ steps) h a =
    ⊎_elim (λ e. let k : ◌≡◌ {A = Reply} Done Failed = sym a.1 ∙ e in cc k) (λ r. failed_not_all writes steps r a.2) h

failed_join : (steps more : List Step) → HasFailed more → HasFailed (steps ++ more)
failed_join [] more h = h
failed_join (step ∷ steps) more h = inr (failed_join steps more h)

follows_join : (write : Write) (writes : List Write) (steps more : List Step) → AllDone (write ∷ []) steps → Follows writes more → Follows (write ∷ writes) (steps ++ more)
follows_join write writes [] more a f = absurd a
follows_join write writes (step ∷ []) more a f = (a.0, subst (λ x. ThenReply x (Follows writes more) more) (sym a.1) f)
follows_join write writes (step ∷ next ∷ steps) more a f = absurd a.2

all_join : (write : Write) (writes : List Write) (steps more : List Step) → AllDone (write ∷ []) steps → AllDone writes more → AllDone (write ∷ writes) (steps ++ more)
all_join write writes [] more a f = absurd a
all_join write writes (step ∷ []) more a f = (a.0, a.1, f)
all_join write writes (step ∷ next ∷ steps) more a f = absurd a.2

-- a change that isn't done is the last
follows_more : (write : Write) (writes : List Write) (steps : List Step) → Follows (write ∷ []) steps → (AllDone (write ∷ []) steps → ⊥) → Follows (write ∷ writes) steps
follows_more write writes [] f none = tt
follows_more write writes (step ∷ steps) f none = (f.0, last step.reply f.1 (λ e a. none (f.0, e, a)))
  where
    no_more : (s : List Step) → Follows [] s → AllDone [] s
    no_more [] h = tt
    no_more (x ∷ s) h = absurd h

    last : (reply : Reply) → ThenReply reply (Follows [] steps) steps → (reply ≡ Done → AllDone [] steps → ⊥) → ThenReply reply (Follows writes steps) steps
    last Done t g = absurd (g refl (no_more steps t))
    last Failed t g = t
    last TreeLost t g = t
    last (Found b) t g = t
    last (Listed b) t g = t
    last (Labelled b) t g = t
    last (Tried b) t g = t
    last (Fits b) t g = t
    last (Viewed b) t g = t
    last Damaged t g = t
    last NoMemory t g = t

-- the first change is done, and the others were tried
pub tries_then : (old mid new : ShareSeen) (write : Write) (writes : List Write) (ok err ok2 err2 ok3 err3 : Type 0) → Tries old mid (write ∷ []) ok err → ok → Tries mid new writes ok2 err2 → (ok3 → ok2) → (err3 → err2)
    → Tries old new (write ∷ writes) ok3 err3
tries_then old mid new write writes ok err ok2 err2 ok3 err3 p k q isOk isErr = record {
  steps = p.steps ++ q.steps;
  runs = runs_then old mid new p.steps q.steps p.runs q.runs;
  follows = follows_join write writes p.steps q.steps (p.all k) q.follows;
  all = λ o. all_join write writes p.steps q.steps (p.all k) (q.all (isOk o));
  fails = λ e. failed_join p.steps q.steps (q.fails (isErr e));
}

-- the first change failed
pub tries_failed : (old new : ShareSeen) (write : Write) (writes : List Write) (ok err ok3 err3 : Type 0) → Tries old new (write ∷ []) ok err → err → (ok3 → ⊥) → Tries old new (write ∷ writes) ok3 err3
tries_failed old new write writes ok err ok3 err3 p k none = record {
  steps = p.steps;
  runs = p.runs;
  follows = follows_more write writes p.steps p.follows (failed_not_all (write ∷ []) p.steps (p.fails k));
  all = λ o. absurd (none o);
  fails = λ _. p.fails k;
}
