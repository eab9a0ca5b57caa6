-- Steps that only read, one after another.
use Rattle.std.proofs.Common.{◌≡◌, ℕ, ◌+◌, ◌≤◌, List, [], ◌∷◌, ◌++◌, None, length, refl, sym, ap, ◌∙◌, subst, inl, inr, ⊎_elim, append-nil, length-append, arith}
use Rattle.pw_types.specs.declared.era.Era.{Era}
use Rattle.share_api.specs.Contents.{Contents, settled}
use Rattle.share_api.specs.Folds.{Fold, Throughout}
use Rattle.share_api.specs.Seen.{ShareSeen, Makes, Runs, HasFailed}
use Rattle.share_api.specs.Steps.{Does, Leads}
use Rattle.share_api.specs.declared.step.Op.{Op}
use Rattle.share_api.specs.declared.step.Op.TheVariants.{Names, Get, Do, InsertLeaf, TryLeaf, ResetLeaf, LookLeaf}
use Rattle.share_api.specs.declared.step.Reply.{Reply}
use Rattle.share_api.specs.declared.step.Reply.TheVariants.{Done, Found, Listed, Labelled, Tried, Fits, Viewed, TreeLost, Damaged, Failed, NoMemory}
use Rattle.share_api.specs.declared.step.Step.{Step}
use Rattle.share_api.proofs.FoldLaws.{fold_split}
use Rattle.share_api.proofs.RunLaws.{runs_one, runs_then, failed_append}
use Rattle.share_api.proofs.StepLaws.{settled_same}
use Rattle.home_recovery.specs.Reading.{RunsOver, IsReadOp, AreReads, Reads}

-- ---- what reads leave

-- a read changes nothing, whatever it is answered
pub read_leads : (era : Era) (moment : ℕ) (op : Op) (reply : Reply) (old new : Contents) → IsReadOp op → Leads era moment op reply old new → new ≡ old
read_leads era moment Names Done old new r l = l.1
read_leads era moment Names (Found b) old new r l = l.1
read_leads era moment Names (Listed b) old new r l = l.1
read_leads era moment Names (Labelled b) old new r l = l.1
read_leads era moment Names (Tried b) old new r l = l.1
read_leads era moment Names (Fits b) old new r l = l.1
read_leads era moment Names (Viewed b) old new r l = l.1
read_leads era moment Names TreeLost old new r l = l
read_leads era moment Names Damaged old new r l = l
read_leads era moment Names Failed old new r l = l
read_leads era moment Names NoMemory old new r l = l
read_leads era moment (Get name) Done old new r l = l.1
read_leads era moment (Get name) (Found b) old new r l = l.1
read_leads era moment (Get name) (Listed b) old new r l = l.1
read_leads era moment (Get name) (Labelled b) old new r l = l.1
read_leads era moment (Get name) (Tried b) old new r l = l.1
read_leads era moment (Get name) (Fits b) old new r l = l.1
read_leads era moment (Get name) (Viewed b) old new r l = l.1
read_leads era moment (Get name) TreeLost old new r l = l
read_leads era moment (Get name) Damaged old new r l = l
read_leads era moment (Get name) Failed old new r l = l
read_leads era moment (Get name) NoMemory old new r l = l
read_leads era moment (LookLeaf label) Done old new r l = l.1
read_leads era moment (LookLeaf label) (Found b) old new r l = l.1
read_leads era moment (LookLeaf label) (Listed b) old new r l = l.1
read_leads era moment (LookLeaf label) (Labelled b) old new r l = l.1
read_leads era moment (LookLeaf label) (Tried b) old new r l = l.1
read_leads era moment (LookLeaf label) (Fits b) old new r l = l.1
read_leads era moment (LookLeaf label) (Viewed b) old new r l = l.1
read_leads era moment (LookLeaf label) TreeLost old new r l = l
read_leads era moment (LookLeaf label) Damaged old new r l = l
read_leads era moment (LookLeaf label) Failed old new r l = l
read_leads era moment (LookLeaf label) NoMemory old new r l = l
read_leads era moment (Do write) reply old new r l = absurd r
read_leads era moment (InsertLeaf leaf) reply old new r l = absurd r
read_leads era moment (TryLeaf label les) reply old new r l = absurd r
read_leads era moment (ResetLeaf label secret) reply old new r l = absurd r

-- a read that is made where no leaf is in doubt
step_stays : (era : Era) (c mid : Contents) (step : Step) → c.doubt ≡ None → IsReadOp step.op → Does era c step mid → mid ≡ c
step_stays era c mid step clear r does =
    read_leads era step.moment step.op step.reply (settled c) mid r does ∙ settled_same c clear

-- reads leave contents in which no leaf is in doubt
pub reads_stay : (era : Era) (c new : Contents) (steps : List Step) → c.doubt ≡ None → AreReads steps → Fold (Does era) c steps new → new ≡ c
reads_stay era c new [] clear r f = f
reads_stay era c new (step ∷ steps) clear r f =
    let mid = step_stays era c f.0 step clear r.0 f.1 in
    reads_stay era c new steps clear r.1 (subst (λ x. Fold (Does era) x steps new) mid f.2)

-- and what is so of them is so throughout
pub reads_keep : (era : Era) (P : Contents → Type 0) (c : Contents) (steps : List Step) → c.doubt ≡ None → AreReads steps → P c → Throughout (Does era) P c steps
reads_keep era P c [] clear r h = h
reads_keep era P c (step ∷ steps) clear r h = (
  h,
  λ mid does. subst (λ x. Throughout (Does era) P x steps) (sym (step_stays era c mid step clear r.0 does))
      (reads_keep era P c steps clear r.1 h),
)

pub reads_append : (steps more : List Step) → AreReads steps → AreReads more → AreReads (steps ++ more)
reads_append [] more r q = q
reads_append (step ∷ steps) more r q = (r.0, reads_append steps more r.1 q)

-- where neither failed, none did
pub none_failed : (steps more : List Step) → (HasFailed steps → ⊥) → (HasFailed more → ⊥) → HasFailed (steps ++ more) → ⊥
none_failed steps more p q h = ⊎_elim p q (failed_append steps more h)

-- ---- runs with stocked calls

-- with as many calls at the end
pub respare : (old new : ShareSeen) (steps : List Step) (k l : ℕ) → Runs old new steps → k + length steps ≡ l
    → Runs (record old { spare = l }) (record new { spare = k }) steps
respare old new steps k l h e = record {
  own = h.own;
  own_is = h.own_is;
  steps_are = h.steps_are;
  place = h.place;
  mine = h.mine;
  account = h.account;
  owner = h.owner;
  era = h.era;
  lost = h.lost;
  spare = e;
  cause = h.cause;
}

pub over_one : (old new : ShareSeen) (step : Step) → Makes old new step → RunsOver old new (step ∷ [])
over_one old new step h =
    respare old new (step ∷ []) new.spare (new.spare + length (step ∷ [])) (runs_one old new step h) refl

pub over_then : (old mid new : ShareSeen) (steps more : List Step) → RunsOver old mid steps → RunsOver mid new more → RunsOver old new (steps ++ more)
over_then old mid new steps more p q =
    runs_then (record old { spare = new.spare + length (steps ++ more) }) (record mid { spare = new.spare + length more }) new steps more
    (respare (record old { spare = mid.spare + length steps }) mid steps (new.spare + length more) (new.spare + length (steps ++ more)) p
    (omega (arith, length-append steps more))) q

-- calls that are stocked are no steps
pub over_stocked : (old new : ShareSeen) → new ≡ record old { spare = new.spare } → RunsOver old new []
over_stocked old new e = record {
  own = [];
  own_is = ap (λ (s : ShareSeen). s.own) e ∙ sym (append-nil old.own);
  steps_are = refl;
  place = ap (λ (s : ShareSeen). s.place) e;
  mine = tt;
  account = ap (λ (s : ShareSeen). s.account) e;
  owner = ap (λ (s : ShareSeen). s.owner) e;
  era = ap (λ (s : ShareSeen). s.era) e;
  lost = ap (λ (s : ShareSeen). s.lost) e;
  spare = refl;
  cause = let same = ap (λ (s : ShareSeen). s.faults) e in record { later = omega (arith, same); rose = absurd; kept = λ _. same };
}

-- ---- what reads tell

-- no step
pub reads_none : (old : ShareSeen) (ok failed : Type 0) (most : ℕ) (P : Contents → Type 0) → (failed → ⊥) → ((c : Contents) → P c) → Reads old old ok failed most P
reads_none old ok failed most P none all = record {
  steps = [];
  runs = over_stocked old old refl;
  reads = tt;
  few = omega arith;
  spare = omega arith;
  used = omega arith;
  well = λ _ h. h;
  fails = λ f. absurd (none f);
  tells = λ c clear f. all c;
}

-- one step
pub reads_one : (old new : ShareSeen) (step : Step) (ok failed : Type 0) (P : Contents → Type 0) → Makes old new step → IsReadOp step.op
    → (ok → step.reply ≡ Failed → ⊥) → (failed → step.reply ≡ Failed)
    → ((c : Contents) → c.doubt ≡ None → Leads old.era step.moment step.op step.reply c c → P c)
    → Reads old new ok failed 1 P
reads_one old new step ok failed P made is well fails tells = record {
  steps = step ∷ [];
  runs = over_one old new step made;
  reads = (is, tt);
  few = omega arith;
  spare = omega (arith, made.spare);
  used = omega (arith, made.spare);
  well = λ o h. ⊎_elim (well o) absurd h;
  fails = λ f. inl (fails f);
  tells = λ c clear f.
      let mid = step_stays old.era c f.0 step clear is f.1 in
      tells c clear (subst (λ x. Leads old.era step.moment step.op step.reply x c) (settled_same c clear)
      (subst (λ x. Does old.era c step x) mid f.1));
}

-- reads and then more reads
pub reads_then : (old mid new : ShareSeen) (ok1 failed1 ok2 failed2 ok failed : Type 0) (n m most : ℕ) (P Q R : Contents → Type 0)
    → Reads old mid ok1 failed1 n P → Reads mid new ok2 failed2 m Q
    → n + m ≤ most → ok1 → (ok → ok2) → (failed → failed2) → ((c : Contents) → P c → Q c → R c)
    → Reads old new ok failed most R
reads_then old mid new ok1 failed1 ok2 failed2 ok failed n m most P Q R p q within went well fails join = record {
  steps = p.steps ++ q.steps;
  runs = over_then old mid new p.steps q.steps p.runs q.runs;
  reads = reads_append p.steps q.steps p.reads q.reads;
  few = omega (arith, within, p.few, q.few, length-append p.steps q.steps);
  spare = omega (arith, within, p.spare, q.spare);
  used = omega (arith, p.used, q.used, length-append p.steps q.steps);
  well = λ o. none_failed p.steps q.steps (p.well went) (q.well (well o));
  fails = λ f. failed_later p.steps q.steps (q.fails (fails f));
  tells = λ c clear f.
      let parts = fold_split (Does old.era) c c p.steps q.steps f in
      let stays = reads_stay old.era c parts.0 p.steps clear p.reads parts.1 in
      let first : Fold (Does old.era) c p.steps c = subst (λ x. Fold (Does old.era) c p.steps x) stays parts.1 in
      let second : Fold (Does old.era) c q.steps c = subst (λ x. Fold (Does old.era) x q.steps c) stays parts.2 in
      join c (p.tells c clear first) (q.tells c clear (subst (λ era. Fold (Does era) c q.steps c) (sym p.runs.era) second));
}
  where
    failed_later : (steps more : List Step) → HasFailed more → HasFailed (steps ++ more)
    failed_later [] more h = h
    failed_later (step ∷ steps) more h = inr (failed_later steps more h)

-- calls were stocked before the reads
pub reads_stocked : (old ready new : ShareSeen) (ok failed : Type 0) (most : ℕ) (P : Contents → Type 0)
    → ready ≡ record old { spare = ready.spare } → old.spare ≤ ready.spare → Reads ready new ok failed most P → Reads old new ok failed most P
reads_stocked old ready new ok failed most P same more q = record {
  steps = q.steps;
  runs = over_then old ready new [] q.steps (over_stocked old ready same) q.runs;
  reads = q.reads;
  few = q.few;
  spare = omega (arith, more, q.spare);
  used = omega (arith, more, q.used);
  well = q.well;
  fails = q.fails;
  tells = λ c clear f. q.tells c clear (subst (λ era. Fold (Does era) c q.steps c) (sym (ap (λ (s : ShareSeen). s.era) same)) f);
}

-- the same reads, told otherwise
pub reads_as : (old new : ShareSeen) (ok1 failed1 ok failed : Type 0) (n most : ℕ) (P R : Contents → Type 0)
    → Reads old new ok1 failed1 n P → n ≤ most → (ok → ok1) → (failed → failed1) → ((c : Contents) → P c → R c)
    → Reads old new ok failed most R
reads_as old new ok1 failed1 ok failed n most P R p within well fails tells = record {
  steps = p.steps;
  runs = p.runs;
  reads = p.reads;
  few = omega (arith, within, p.few);
  spare = omega (arith, within, p.spare);
  used = p.used;
  well = λ o. p.well (well o);
  fails = λ f. p.fails (fails f);
  tells = λ c clear f. tells c (p.tells c clear f);
}
