-- Looks at leaves, one after another.
use Rattle.std.proofs.Common.{◌≡◌, ℕ, ◌+◌, ◌≤◌, List, [], ◌∷◌, ◌++◌, Option, None, Some, Result, Ok, Err, refl, sym, ap, ◌∙◌, subst, inl, inr, length-append, arith}
use Rattle.std.specs.Prelude.{IfErr, IsErrOf, option_map}
use Rattle.std.specs.FinMap.{get}
use Rattle.pw_types.specs.declared.era.Era.{Era}
use Rattle.record_names.specs.Names.{leaf_name}
use Rattle.share_api.specs.Conditions.{IsLeafFault, TellsLoss}
use Rattle.share_api.specs.Contents.{Bytes, Contents}
use Rattle.share_api.specs.Folds.{Fold}
use Rattle.share_api.specs.Replies.{view_reply}
use Rattle.share_api.specs.Seen.{ShareSeen, Makes, HasFailed, step_of}
use Rattle.share_api.specs.Steps.{Does, Leads, view_of}
use Rattle.share_api.specs.declared.fault.ShareFault.{ShareFault}
use Rattle.share_api.specs.declared.fault.ShareFault.TheVariants as shares
use Rattle.share_api.specs.declared.leaf.Leaf.{Leaf}
use Rattle.share_api.specs.declared.leaf.LeafView.{LeafView}
use Rattle.share_api.specs.declared.step.Op.TheVariants.{LookLeaf}
use Rattle.share_api.specs.declared.step.Reply.{Reply}
use Rattle.share_api.specs.declared.step.Reply.TheVariants.{Viewed, Failed, NoMemory, TreeLost}
use Rattle.share_api.specs.declared.step.Step.{Step}
use Rattle.share_api.proofs.FoldLaws.{fold_split}
use Rattle.share_api.proofs.RunLaws.{runs_none, runs_one, runs_then}
use Rattle.share_api.proofs.StepLaws.{settled_same}
use Rattle.home_recovery.proofs.CallLemmas.{no_err, same_fault, starved_no_failed}
use Rattle.home_recovery.proofs.ReadLemmas.{read_leads, reads_stay, reads_append}
use Rattle.stored_home.specs.declared.fault.StoreFault.{StoreFault}
use Rattle.stored_home.specs.declared.fault.StoreFault.TheVariants as faults
use Rattle.stored_home.proofs.MapLemmas.{not_None}
use Rattle.turn_secrets.specs.Listing.{Looks, TellsLook, IsListFault, count_told}

-- no look
pub looks_none : (old : ShareSeen) (failed : Type 0) (most : ℕ) (P : Contents → Type 0) → (failed → ⊥)
    → ((c : Contents) → P c) → Looks old old failed most P
looks_none old failed most P none all = record {
  steps = [];
  runs = runs_none old;
  reads = tt;
  few = omega arith;
  fails = λ f. absurd (none f);
  tells = λ c clear f. all c;
}

-- one look
pub looks_one : (old new : ShareSeen) (label : ℕ) (reply : Reply) (failed : Type 0) (P : Contents → Type 0)
    → Makes old new (step_of old 0 (LookLeaf label) reply) → (failed → reply ≡ Failed)
    → ((c : Contents) → Leads old.era 0 (LookLeaf label) reply c c → P c)
    → Looks old new failed 1 P
looks_one old new label reply failed P made fails tells = record {
  steps = step_of old 0 (LookLeaf label) reply ∷ [];
  runs = runs_one old new (step_of old 0 (LookLeaf label) reply) made;
  reads = (tt, tt);
  few = omega arith;
  fails = λ f. inl (fails f);
  tells = λ c clear f.
      let mid : f.0 ≡ c = read_leads old.era 0 (LookLeaf label) reply _ f.0 tt f.1 ∙ settled_same c clear in
      tells c (subst (λ x. Leads old.era 0 (LookLeaf label) reply x c) (settled_same c clear)
      (subst (λ x. Does old.era c (step_of old 0 (LookLeaf label) reply) x) mid f.1));
}

failed_later : (steps more : List Step) → HasFailed more → HasFailed (steps ++ more)
failed_later [] more h = h
failed_later (step ∷ steps) more h = inr (failed_later steps more h)

-- looks and then more looks
pub looks_then : (old mid new : ShareSeen) (failed1 failed2 failed : Type 0) (n m most : ℕ) (P Q R : Contents → Type 0)
    → Looks old mid failed1 n P → Looks mid new failed2 m Q → n + m ≤ most → (failed → failed2)
    → ((c : Contents) → P c → Q c → R c) → Looks old new failed most R
looks_then old mid new failed1 failed2 failed n m most P Q R p q within fails join = record {
  steps = p.steps ++ q.steps;
  runs = runs_then old mid new p.steps q.steps p.runs q.runs;
  reads = reads_append p.steps q.steps p.reads q.reads;
  few = omega (arith, within, p.few, q.few, length-append p.steps q.steps);
  fails = λ f. failed_later p.steps q.steps (q.fails (fails f));
  tells = λ c clear f.
      let parts = fold_split (Does old.era) c c p.steps q.steps f in
      let stays = reads_stay old.era c parts.0 p.steps clear p.reads parts.1 in
      let first : Fold (Does old.era) c p.steps c = subst (λ x. Fold (Does old.era) c p.steps x) stays parts.1 in
      let second : Fold (Does old.era) c q.steps c = subst (λ x. Fold (Does old.era) x q.steps c) stays parts.2 in
      join c (p.tells c clear first)
      (q.tells c clear (subst (λ (era : Era). Fold (Does era) c q.steps c) (sym p.runs.era) second));
}

-- the same looks, told otherwise
pub looks_as : (old new : ShareSeen) (failed1 failed : Type 0) (n most : ℕ) (P R : Contents → Type 0)
    → Looks old new failed1 n P → n ≤ most → (failed → failed1) → ((c : Contents) → P c → R c)
    → Looks old new failed most R
looks_as old new failed1 failed n most P R p within fails tells = record {
  steps = p.steps;
  runs = p.runs;
  reads = p.reads;
  few = let few = p.few in omega (arith, few, within);
  fails = λ f. p.fails (fails f);
  tells = λ c clear f. tells c (p.tells c clear f);
}

-- a fault of a part is one of the whole
pub looks_err : {A B : Type 0} (old new : ShareSeen) (fault : StoreFault) (n most : ℕ) (P Q : Contents → Type 0)
    → Looks old new (IsErrOf {T = A} (Err fault) faults.Failed) n P → n ≤ most → ((c : Contents) → P c → Q c)
    → Looks old new (IsErrOf {T = B} (Err fault) faults.Failed) most Q
looks_err {A} {B} old new fault n most P Q l within tells =
    looks_as old new (IsErrOf {T = A} (Err fault) faults.Failed) (IsErrOf {T = B} (Err fault) faults.Failed) n most P
    Q l
    within (λ f. ap (λ (e : StoreFault). Err e) (same_fault {A = B} fault faults.Failed f)) tells

-- and so is one after other looks
pub looks_then_err : {A B : Type 0} (old mid new : ShareSeen) (fault : StoreFault) (failed : Type 0) (n m most : ℕ)
    (P Q R : Contents → Type 0)
    → Looks old mid failed n P → Looks mid new (IsErrOf {T = A} (Err fault) faults.Failed) m Q → n + m ≤ most
    → ((c : Contents) → Q c → R c) → Looks old new (IsErrOf {T = B} (Err fault) faults.Failed) most R
looks_then_err {A} {B} old mid new fault failed n m most P Q R p q within tells =
    looks_then old mid new failed (IsErrOf {T = A} (Err fault) faults.Failed) (IsErrOf {T = B} (Err fault)
    faults.Failed) n
    m most P Q R p q within (λ f. ap (λ (e : StoreFault). Err e) (same_fault {A = B} fault faults.Failed f))
    (λ c h k. tells c k)

-- want of memory after looks
pub looks_starved : {A : Type 0} (old new : ShareSeen) (failed : Type 0) (n most : ℕ) (P Q : Contents → Type 0)
    → Looks old new failed n P → n ≤ most → ((c : Contents) → Q c)
    → Looks old new (IsErrOf {T = A} (Err faults.NoMemory) faults.Failed) most Q
looks_starved {A} old new failed n most P Q l within tells =
    looks_as old new failed (IsErrOf {T = A} (Err faults.NoMemory) faults.Failed) n most P Q l within
    (λ f. absurd (starved_no_failed {A = A} f)) (λ c h. tells c)

pub looks_then_starved : {A : Type 0} (old mid new : ShareSeen) (failed1 failed2 : Type 0) (n m most : ℕ)
    (P Q R : Contents → Type 0)
    → Looks old mid failed1 n P → Looks mid new failed2 m Q → n + m ≤ most → ((c : Contents) → R c)
    → Looks old new (IsErrOf {T = A} (Err faults.NoMemory) faults.Failed) most R
looks_then_starved {A} old mid new failed1 failed2 n m most P Q R p q within tells =
    looks_then old mid new failed1 failed2 (IsErrOf {T = A} (Err faults.NoMemory) faults.Failed) n m most P Q R p q
    within
    (λ f. absurd (starved_no_failed {A = A} f)) (λ c h k. tells c)

damaged_no_failed : {A : Type 0} (name : Bytes)
    → ◌≡◌ {A = Result A StoreFault} (Err (faults.Damaged name)) (Err faults.Failed) → ⊥
damaged_no_failed name same = cc

lost_no_failed : {A : Type 0} (host chip : Bytes)
    → ◌≡◌ {A = Result A StoreFault} (Err (faults.TreeLost host chip)) (Err faults.Failed) → ⊥
lost_no_failed host chip same = cc

same_view : (a b : Option LeafView) → ◌≡◌ {A = Reply} (Viewed a) (Viewed b) → a ≡ b
same_view a b same = cc

-- what a view shows of a leaf
seen_count : (x : Option Leaf) (view : LeafView) → Some view ≡ option_map view_of x
    → Some view.wrong ≡ option_map (λ (leaf : Leaf). leaf.wrong) x
seen_count None view e = absurd (not_None view e)
seen_count (Some leaf) view e = ap (option_map (λ (v : LeafView). v.wrong)) e

none_seen : (x : Option Leaf) → ◌≡◌ {A = Option LeafView} None (option_map view_of x) → x ≡ None
none_seen None e = refl
none_seen (Some leaf) e = absurd (not_None (view_of leaf) (sym e))

-- what a look tells, by its answer
pub look_told : (old new : ShareSeen) (account : Bytes) (label : ℕ) (r : Result (Option LeafView) ShareFault)
    → Makes old new (step_of old 0 (LookLeaf label) (view_reply r)) → IfErr r IsLeafFault
    → Looks old new (IsErrOf (count_told account label r) faults.Failed) 1
    (TellsLook account label (count_told account label r))
look_told old new account label (Ok (Some view)) made only =
    looks_one old new label (Viewed (Some view)) _ (TellsLook account label (Ok (Some view.wrong))) made
    (λ f. absurd (no_err (Some view.wrong) faults.Failed f))
    (λ c l. seen_count (get c.leaves label) view (same_view (Some view) (option_map view_of (get c.leaves label)) l.0))
look_told old new account label (Ok None) made only =
    looks_one old new label (Viewed None) _ (TellsLook account label (Err (faults.Damaged (leaf_name account label))))
    made
    (λ f. absurd (damaged_no_failed {A = Option ℕ} (leaf_name account label) f))
    (λ c l. (refl, none_seen (get c.leaves label) (same_view None (option_map view_of (get c.leaves label)) l.0)))
look_told old new account label (Err shares.Failed) made only =
    looks_one old new label Failed _ (TellsLook account label (Err faults.Failed)) made (λ f. refl) (λ c l. tt)
look_told old new account label (Err (shares.TreeLost host chip)) made only =
    looks_one old new label TreeLost _ (TellsLook account label (Err (faults.TreeLost host chip))) made
    (λ f. absurd (lost_no_failed {A = Option ℕ} host chip f)) (λ c l. tt)
look_told old new account label (Err (shares.Damaged name)) made only = absurd only
look_told old new account label (Err shares.NoMemory) made only =
    looks_one old new label NoMemory _ (TellsLook account label (Err faults.NoMemory)) made
    (λ f. absurd (starved_no_failed {A = Option ℕ} f)) (λ c l. tt)

-- and of which fault it may be
pub look_only : (account : Bytes) (label : ℕ) (r : Result (Option LeafView) ShareFault) (lost : Option (Bytes × Bytes))
    → IfErr r IsLeafFault → TellsLoss lost r → lost ≡ None → IfErr (count_told account label r) IsListFault
look_only account label (Ok (Some view)) lost only tells whole = tt
look_only account label (Ok None) lost only tells whole = tt
look_only account label (Err shares.Failed) lost only tells whole = tt
look_only account label (Err (shares.TreeLost host chip)) lost only tells whole =
    subst (λ roots. TellsLoss {A = Option LeafView} roots (Err (shares.TreeLost host chip))) whole tells host chip refl
look_only account label (Err (shares.Damaged name)) lost only tells whole = tt
look_only account label (Err shares.NoMemory) lost only tells whole = tt
