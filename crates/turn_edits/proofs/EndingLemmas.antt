-- How a turn with an edit ends, by the edit's result.
use Rattle.std.proofs.Common.{◌≡◌, ℕ, List, None, Result, Ok, Err, IsOk, IsErr, OnErr, refl, sym, ap, ◌∙◌, subst, inl, inr, arith}
use Rattle.std.specs.Prelude.{IsErrOf, IfErr}
use Rattle.account_machine.specs.declared.answer.Answer.{Answer}
use Rattle.account_machine.specs.declared.answer.Answer.TheVariants as answers
use Rattle.account_machine.specs.declared.user.Durable.{Durable}
use Rattle.auth_session.specs.Table.{Table}
use Rattle.home_edits.specs.Edits.{Edits, IsEditFault}
use Rattle.home_edits.proofs.CostLemmas.{same_rest}
use Rattle.random_values.specs.Stretches.{Place}
use Rattle.share_api.specs.Contents.{Bytes, Contents}
use Rattle.share_api.specs.Places.{steps_of}
use Rattle.share_api.specs.Seen.{ShareSeen, Runs, HasFailed}
use Rattle.share_api.specs.declared.step.Step.{Step}
use Rattle.stored_home.specs.Holds.{Keys}
use Rattle.stored_home.specs.declared.fault.StoreFault.{StoreFault}
use Rattle.stored_home.specs.declared.fault.StoreFault.TheVariants as faults
use Rattle.stored_home.specs.declared.stored.Stored.{Stored}
use Rattle.user_state.specs.declared.state.Doubt.{Doubt}
use Rattle.user_state.specs.declared.state.UserState.{UserState}
use Rattle.turn_edits.specs.Endings.{answer_of, doubt_of, IsEnded, IsCaused, MadeFailed}

-- an edit whose one fault is a failed step
pub failed_only : (r : Result (Unit {0}) StoreFault) → (IsErr r → IsErrOf r faults.Failed) → IfErr r IsEditFault
failed_only (Ok u) h = tt
failed_only (Err fault) h =
    let e : ◌≡◌ {A = Result (Unit {0}) StoreFault} (Err fault) (Err faults.Failed) = h refl in
    let failed : fault ≡ faults.Failed = cc in
    subst IsEditFault (sym failed) tt

pub failed_calm : (r : Result (Unit {0}) StoreFault) (P : Type 0) → (IsErr r → IsErrOf r faults.Failed)
    → IsErrOf r faults.NoMemory → P
failed_calm (Ok u) P h memory = let z : ◌≡◌ {A = ℕ} 0 1 = cc in absurd (omega (arith, z))
failed_calm (Err fault) P h memory =
    let e : ◌≡◌ {A = Result (Unit {0}) StoreFault} (Err faults.NoMemory) (Err faults.Failed) = sym memory ∙ h refl in
    absurd (cc e)

-- the account is unsettled exactly after a storage fault
pub ended_by : (Tells : Doubt → Type 0) (before : UserState) (generator : Place) (sessions : Table) (after : Stored)
    (doubt : Doubt) (r : Result (Unit {0}) StoreFault) → Tells doubt → before.doubt ≡ None → IfErr r IsEditFault
    → OnErr r (after ≡ before.stored)
    → IsEnded Tells before (record before {
      generator = generator;
      sessions = sessions;
      stored = after;
      doubt = doubt_of doubt before.doubt r;
    }) (answer_of r)
ended_by Tells before generator sessions after doubt (Ok u) tells none only err = record {
  fault = λ e. let z : ◌≡◌ {A = Answer} answers.Ok answers.StorageFault = e in absurd (cc z);
  loaded = λ e. let z : ◌≡◌ {A = Answer} answers.Ok answers.StorageFault = e in absurd (cc z);
  settled = λ _. none;
}
ended_by Tells before generator sessions after doubt (Err faults.Failed) tells none only err = record {
  fault = λ _. tells;
  loaded = λ _. err;
  settled = λ apart. absurd (apart refl);
}
ended_by Tells before generator sessions after doubt (Err (faults.Damaged name)) tells none only err = absurd only
ended_by Tells before generator sessions after doubt (Err faults.NoMemory) tells none only err = record {
  fault = λ e. let z : ◌≡◌ {A = Answer} answers.NoMemory answers.StorageFault = e in absurd (cc z);
  loaded = λ e. let z : ◌≡◌ {A = Answer} answers.NoMemory answers.StorageFault = e in absurd (cc z);
  settled = λ _. none;
}
ended_by Tells before generator sessions after doubt (Err (faults.TreeLost host chip)) tells none only err =
    absurd only

-- a turn that makes these steps, of which one failed or none did
pub made_failed : (old new : ShareSeen) (steps : List Step) → Runs old new steps → HasFailed steps → MadeFailed old new
made_failed old new steps runs has = (runs.own, runs.own_is, subst HasFailed (sym runs.steps_are) has)

pub none_failed : (old new : ShareSeen) (steps : List Step) → Runs old new steps → (HasFailed steps → ⊥)
    → MadeFailed old new → ⊥
none_failed old new steps runs none made =
    let same : made.0 ≡ runs.own = same_rest old.own made.0 runs.own (sym made.1 ∙ runs.own_is) in
    none (subst HasFailed (ap (λ (o : List (ℕ × Step)). steps_of o) same ∙ runs.steps_are) made.2)

-- the causes of its answers
pub caused_by : (old new : ShareSeen) (account : Bytes) (Broken : Type 0) (stored after : Stored)
    (Asks : Contents → Keys → Durable → Durable → Type 0) (r : Result (Unit {0}) StoreFault)
    → Edits old new account stored after (IsOk r) (IsErrOf r faults.Failed) Asks → IfErr r IsEditFault
    → (IsErrOf r faults.NoMemory → new ≡ old) → IsCaused old new account Broken (answer_of r)
caused_by old new account Broken stored after Asks (Ok u) edits only calm = record {
  known = inl refl;
  fault = λ e. let z : ◌≡◌ {A = Answer} answers.Ok answers.StorageFault = e in absurd (cc z);
  done = λ _. none_failed old new edits.steps edits.runs (edits.done refl);
  memory = λ e. let z : ◌≡◌ {A = Answer} answers.Ok answers.NoMemory = e in absurd (cc z);
  damaged = λ name e. let z : ◌≡◌ {A = Answer} answers.Ok (answers.Damaged name) = e in absurd (cc z);
}
caused_by old new account Broken stored after Asks (Err faults.Failed) edits only calm = record {
  known = inr (inl refl);
  fault = λ _. made_failed old new edits.steps edits.runs (edits.fails refl);
  done = λ e. let z : ◌≡◌ {A = Answer} answers.StorageFault answers.Ok = e in absurd (cc z);
  memory = λ e. let z : ◌≡◌ {A = Answer} answers.StorageFault answers.NoMemory = e in absurd (cc z);
  damaged = λ name e. let z : ◌≡◌ {A = Answer} answers.StorageFault (answers.Damaged name) = e in absurd (cc z);
}
caused_by old new account Broken stored after Asks (Err (faults.Damaged name)) edits only calm = absurd only
caused_by old new account Broken stored after Asks (Err faults.NoMemory) edits only calm = record {
  known = inr (inr (inl refl));
  fault = λ e. let z : ◌≡◌ {A = Answer} answers.NoMemory answers.StorageFault = e in absurd (cc z);
  done = λ e. let z : ◌≡◌ {A = Answer} answers.NoMemory answers.Ok = e in absurd (cc z);
  memory = λ _. calm refl;
  damaged = λ name e. let z : ◌≡◌ {A = Answer} answers.NoMemory (answers.Damaged name) = e in absurd (cc z);
}
caused_by old new account Broken stored after Asks (Err (faults.TreeLost host chip)) edits only calm = absurd only

-- a row that never answers a damaged stash
pub caused_wider : (old new : ShareSeen) (account : Bytes) (Broken : Type 0) (answer : Answer)
    → IsCaused old new account ⊥ answer → IsCaused old new account Broken answer
caused_wider old new account Broken answer c = record {
  known = c.known;
  fault = c.fault;
  done = c.done;
  memory = c.memory;
  damaged = λ name e. absurd (c.damaged name e).1;
}
