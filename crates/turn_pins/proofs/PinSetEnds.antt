-- How a turn that sets a PIN ends, by the edit's result.
use Rattle.std.proofs.Common.{◌≡◌, ◌⊎◌, ⊎_elim, ℕ, List, [], ◌∷◌, ◌++◌, None, Result, Ok, Err, IsErr, refl, sym, ap, ◌∙◌, subst, inr, true≢false}
use Rattle.std.specs.Prelude.{IfErr}
use Rattle.std.specs.List.{AllByRecursion}
use Rattle.account_machine.specs.declared.answer.Answer.{Answer}
use Rattle.account_machine.specs.declared.answer.Answer.TheVariants as answers
use Rattle.account_machine.specs.declared.user.Durable.{Durable}
use Rattle.pin_edits.specs.Faults.{IsSetFault, IsStashOrLeaf, TellsLost}
use Rattle.home_edits.specs.Costs.{HasCost, PutsCost}
use Rattle.home_edits.proofs.CostLemmas.{same_rest}
use Rattle.home_recovery.specs.Reading.{IsReadOp, AreReads}
use Rattle.pin_edits.specs.Pins.{EditsPin, ComesToNothing}
use Rattle.share_api.specs.Contents.{Bytes, Contents}
use Rattle.share_api.specs.Places.{steps_of}
use Rattle.share_api.specs.Seen.{ShareSeen, Runs, HasFailed}
use Rattle.share_api.specs.declared.step.Step.{Step}
use Rattle.share_api.proofs.RunLaws.{runs_then, failed_append, failed_either}
use Rattle.stored_home.specs.Holds.{Keys}
use Rattle.stored_home.specs.declared.fault.StoreFault.{StoreFault}
use Rattle.stored_home.specs.declared.fault.StoreFault.TheVariants as faults
use Rattle.stored_home.specs.declared.stored.Stored.{Stored}
use Rattle.turn_edits.proofs.EndingLemmas.{made_failed, none_failed}
use Rattle.turn_pins.specs.Endings.{IsPinCaused}
use Rattle.turn_pins.specs.Looking.{IsRefusal}
use Rattle.turn_pins.specs.Resetting.{IsToldAnswer}
use Rattle.turn_pins.specs.Setting.{IsRenewFault, OnlyReads}

-- the answers to a refusal
abbrev IsRefused : Bytes → Answer → Type 0
IsRefused name answer = (answer ≡ answers.Damaged name) ⊎ (answer ≡ answers.NoMemory)

refused_calm : (name : Bytes) (answer : Answer) → IsRefused name answer → answer ≡ answers.StorageFault → ⊥
refused_calm name answer is e = ⊎_elim
    (λ d. let z : ◌≡◌ {A = Answer} (answers.Damaged name) answers.StorageFault = sym d ∙ e in cc z)
    (λ d. let z : ◌≡◌ {A = Answer} answers.NoMemory answers.StorageFault = sym d ∙ e in cc z) is

refused_not_ok : (name : Bytes) (answer : Answer) → IsRefused name answer → answer ≡ answers.Ok → ⊥
refused_not_ok name answer is e = ⊎_elim
    (λ d. let z : ◌≡◌ {A = Answer} (answers.Damaged name) answers.Ok = sym d ∙ e in cc z)
    (λ d. let z : ◌≡◌ {A = Answer} answers.NoMemory answers.Ok = sym d ∙ e in cc z) is

refused_whole : (name : Bytes) (answer : Answer) → IsRefused name answer → (host chip : Bytes)
    → answer ≡ answers.TreeLost host chip → ⊥
refused_whole name answer is host chip e = ⊎_elim
    (λ d. let z : ◌≡◌ {A = Answer} (answers.Damaged name) (answers.TreeLost host chip) = sym d ∙ e in cc z)
    (λ d. let z : ◌≡◌ {A = Answer} answers.NoMemory (answers.TreeLost host chip) = sym d ∙ e in cc z) is

-- the name that is told
refused_name : (name : Bytes) (answer : Answer) → IsRefused name answer → (told : Bytes)
    → answer ≡ answers.Damaged told → name ≡ told
refused_name name answer is told e = ⊎_elim
    (λ d. let z : ◌≡◌ {A = Answer} (answers.Damaged name) (answers.Damaged told) = sym d ∙ e in cc)
    (λ d. let z : ◌≡◌ {A = Answer} answers.NoMemory (answers.Damaged told) = sym d ∙ e in absurd (cc z)) is

module _ (old new : ShareSeen) (account : Bytes) (Calm : Type 0) where
  abbrev pub Damages : Bytes → Type 0
  Damages name = IsStashOrLeaf account name × Calm

  -- a refusal
  pub refused_caused : (name : Bytes) → IsStashOrLeaf account name → Calm → (answer : Answer) → IsRefused name answer
      → IsPinCaused old new None Calm Damages answer
  refused_caused name its calm answer is = record {
    fault = λ e. absurd (refused_calm name answer is e);
    done = λ e. absurd (refused_not_ok name answer is e);
    memory = λ e. calm;
    damaged = λ told e. (subst (IsStashOrLeaf account) (refused_name name answer is told e) its, calm);
    tree = refused_whole name answer is;
    still = λ some. absurd (true≢false (sym some));
  }

  -- want of memory
  pub starved_caused : Calm → IsPinCaused old new None Calm Damages answers.NoMemory
  starved_caused calm = record {
    fault = λ e. let z : ◌≡◌ {A = Answer} answers.NoMemory answers.StorageFault = e in absurd (cc z);
    done = λ e. let z : ◌≡◌ {A = Answer} answers.NoMemory answers.Ok = e in absurd (cc z);
    memory = λ e. calm;
    damaged = λ told e. let z : ◌≡◌ {A = Answer} answers.NoMemory (answers.Damaged told) = e in absurd (cc z);
    tree = λ host chip e. let z : ◌≡◌ {A = Answer} answers.NoMemory (answers.TreeLost host chip) = e in cc z;
    still = λ some. absurd (true≢false (sym some));
  }

  -- why the edit was answered so, once these steps were made before it of which none failed
  module _ (mid : ShareSeen) (first : List Step) (runs : Runs old mid first) (quiet : HasFailed first → ⊥)
      (stored after : Stored) (Asks : Contents → Keys → Durable → Durable → Type 0) where
    pub set_caused : (r : Result (Unit {0}) StoreFault) → EditsPin mid new account stored after r Asks
        → IfErr r (IsSetFault account) → (IsErr r → (r ≡ Err faults.Failed → ⊥) → Calm) → TellsLost None r
        → (answer : Answer) → IsToldAnswer r answer → IsPinCaused old new None Calm Damages answer
    set_caused (Ok u) e only calm tells answer told = subst (IsPinCaused old new None Calm Damages) (sym told) (record {
      fault = λ e. let z : ◌≡◌ {A = Answer} answers.Ok answers.StorageFault = e in absurd (cc z);
      done = λ _. none_failed old new (first ++ e.edits.steps) (runs_then old mid new first e.edits.steps runs
          e.edits.runs) (λ has. ⊎_elim quiet (e.edits.done refl) (failed_append first e.edits.steps has));
      memory = λ e. let z : ◌≡◌ {A = Answer} answers.Ok answers.NoMemory = e in absurd (cc z);
      damaged = λ name e. let z : ◌≡◌ {A = Answer} answers.Ok (answers.Damaged name) = e in absurd (cc z);
      tree = λ host chip e. let z : ◌≡◌ {A = Answer} answers.Ok (answers.TreeLost host chip) = e in cc z;
      still = λ some. absurd (true≢false (sym some));
    })
    set_caused (Err faults.Failed) e only calm tells answer told =
        subst (IsPinCaused old new None Calm Damages) (sym told) (record {
          fault = λ _. made_failed old new (first ++ e.edits.steps) (runs_then old mid new first e.edits.steps runs
              e.edits.runs) (failed_either first e.edits.steps (inr (e.edits.fails refl)));
          done = λ e. let z : ◌≡◌ {A = Answer} answers.StorageFault answers.Ok = e in absurd (cc z);
          memory = λ e. let z : ◌≡◌ {A = Answer} answers.StorageFault answers.NoMemory = e in absurd (cc z);
          damaged = λ name e. let z : ◌≡◌ {A = Answer} answers.StorageFault (answers.Damaged name) = e in
              absurd (cc z);
          tree = λ host chip e. let z : ◌≡◌ {A = Answer} answers.StorageFault (answers.TreeLost host chip) = e in cc z;
          still = λ some. absurd (true≢false (sym some));
        })
    set_caused (Err (faults.Damaged name)) e only calm tells answer told =
        refused_caused name only (calm refl (λ f.
        let z : ◌≡◌ {A = Result (Unit {0}) StoreFault} (Err (faults.Damaged name)) (Err faults.Failed) = f in cc z))
        answer told
    set_caused (Err faults.NoMemory) e only calm tells answer told =
        subst (IsPinCaused old new None Calm Damages) (sym told) (starved_caused (calm refl (λ f.
        let z : ◌≡◌ {A = Result (Unit {0}) StoreFault} (Err faults.NoMemory) (Err faults.Failed) = f in cc z)))
    set_caused (Err (faults.TreeLost host chip)) e only calm tells answer told = absurd (tells host chip refl)

-- ---- no edit was made

-- why it was answered so
pub refusal_caused : (old new : ShareSeen) (account : Bytes) (Calm : Type 0) → Calm → (tree : ℕ) (fault : StoreFault)
    → IsRenewFault account tree fault → (answer : Answer) → IsRefusal fault answer
    → IsPinCaused old new None Calm (Damages old new account Calm) answer
refusal_caused old new account Calm calm tree faults.Failed only answer is =
    subst (IsPinCaused old new None Calm (Damages old new account Calm)) (sym is)
    (starved_caused old new account Calm calm)
refusal_caused old new account Calm calm tree (faults.Damaged name) only answer is =
    refused_caused old new account Calm name (inr (tree, only)) calm answer is
refusal_caused old new account Calm calm tree faults.NoMemory only answer is =
    subst (IsPinCaused old new None Calm (Damages old new account Calm)) (sym is)
    (starved_caused old new account Calm calm)
refusal_caused old new account Calm calm tree (faults.TreeLost host chip) only answer is = absurd only

-- ---- costs

read_costs : (account : Bytes) (cost : ℕ) (steps : List Step) → AreReads steps
    → AllByRecursion (HasCost account cost) steps
read_costs account cost [] reads = tt
read_costs account cost (step ∷ steps) reads = (
  λ label edition bytes row put at. absurd (subst IsReadOp put reads.0),
  read_costs account cost steps reads.1,
)

all_append : (P : Step → Type 0) (xs ys : List Step) → AllByRecursion P xs → AllByRecursion P ys
    → AllByRecursion P (xs ++ ys)
all_append P [] ys p q = q
all_append P (x ∷ xs) ys p q = (p.0, all_append P xs ys p.1 q)

-- reads put no factor's record, and what comes after them puts those of this cost
pub read_then_costs : (old mid new : ShareSeen) (account : Bytes) (cost : ℕ) (first more : List Step)
    → Runs old mid first → AreReads first → Runs mid new more → PutsCost mid new account cost
    → PutsCost old new account cost
read_then_costs old mid new account cost first more runs reads then costs own is =
    let all = runs_then old mid new first more runs then in
    let same : own ≡ all.own = same_rest old.own own all.own (sym is ∙ all.own_is) in
    subst (AllByRecursion (HasCost account cost)) (sym (ap (λ (o : List (ℕ × Step)). steps_of o) same ∙ all.steps_are))
    (all_append (HasCost account cost) first more (read_costs account cost first reads)
    (subst (AllByRecursion (HasCost account cost)) then.steps_are (costs then.own then.own_is)))

-- the share made reads alone, and then the edit came to nothing
pub only_reads : (old mid new : ShareSeen) (first : List Step) → Runs old mid first → AreReads first
    → ComesToNothing mid new → OnlyReads old new
only_reads old mid new first runs reads nothing =
    record { mid = mid; steps = first; runs = runs; reads = reads; nothing = nothing }
