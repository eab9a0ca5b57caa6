-- Recovering, put together.
use Rattle.std.proofs.Common.{◌≡◌, ℕ, ◌+◌, ◌≤◌, List, [], ◌∷◌, ◌++◌, map, length, None, Result, Ok, Err, Bool, true, refl, sym, ap, ◌∙◌, subst, inl, inr, ⊎_elim, IsOk, is_some, true≢false, length-append, arith}
use Rattle.std.proofs.lemmas.List.{length-map}
use Rattle.std.proofs.lemmas.List.Sorted.{length_permutation}
use Rattle.std.specs.Prelude.{IsErrOf, IfOk, IfErr, IsTrue}
use Rattle.account_machine.specs.declared.user.Durable.{Durable}
use Rattle.record_names.specs.Names.{is_account_name, leaf_name}
use Rattle.share_api.specs.Contents.{Bytes, Contents}
use Rattle.share_api.specs.Folds.{Fold, Throughout}
use Rattle.share_api.specs.Replies.{AreListed}
use Rattle.share_api.specs.Seen.{ShareSeen, Makes, Runs, HasFailed, step_of}
use Rattle.share_api.specs.Steps.{Does}
use Rattle.share_api.specs.declared.step.Op.TheVariants.{Names}
use Rattle.share_api.specs.declared.step.Reply.{Reply}
use Rattle.share_api.specs.declared.step.Reply.TheVariants as replies
use Rattle.share_api.specs.declared.step.Step.{Step}
use Rattle.share_api.proofs.FoldLaws.{fold_split, throughout_append, throughout_end}
use Rattle.share_api.proofs.RunLaws.{failed_append}
use Rattle.share_api.proofs.StepLaws.{throughout_follows, after_all}
use Rattle.share_api.proofs.TryLaws.{failed_not_all}
use Rattle.stored_home.specs.Coherent.{IsCoherent}
use Rattle.stored_home.specs.Holds.{Keys, HoldsUnder}
use Rattle.stored_home.specs.Loaded.{IsKept}
use Rattle.stored_home.specs.declared.fault.StoreFault.{StoreFault}
use Rattle.stored_home.specs.declared.fault.StoreFault.TheVariants.{Failed, Damaged}
use Rattle.stored_home.specs.declared.stored.Stored.{Stored}
use Rattle.home_recovery.specs.Damage.{IsSoundHome}
use Rattle.home_recovery.specs.Home.{TellsListed}
use Rattle.home_recovery.specs.Loads.{Loads}
use Rattle.home_recovery.specs.Loose.{IsReadOf}
use Rattle.home_recovery.specs.Reading.{RunsOver, Reads}
use Rattle.home_recovery.specs.Recovers.{listed_by, listed_first, Recovers}
use Rattle.home_recovery.specs.Sweeps.{Finishes}
use Rattle.home_recovery.specs.Told.{lost_tree, IsStepFault}
use Rattle.home_recovery.proofs.KeptLemmas.{reads_hold}
use Rattle.home_recovery.proofs.LoadLemmas.{begun, lost_same, IsFound, found_after, went}
use Rattle.home_recovery.proofs.ReadLemmas.{respare, over_then, over_stocked}
use Rattle.home_recovery.proofs.RemovalLemmas.{removals_keep}
use Rattle.home_recovery.proofs.SweepLemmas.{few_follow}
use Rattle.home_recovery.proofs.TidyLemmas.{loose_all, tidying_follows, tidying_then, read_along, coherent_trimmed, read_trimmed, kept_swept, sound_swept}

-- a run without calls stocked between
over_run : (old new : ShareSeen) (steps : List Step) → Runs old new steps → RunsOver old new steps
over_run old new steps h = respare old new steps new.spare (new.spare + length steps) h refl

failed_later : (steps more : List Step) → HasFailed more → HasFailed (steps ++ more)
failed_later [] more h = h
failed_later (step ∷ steps) more h = inr (failed_later steps more h)

-- what is told of the state that is kept
kept_is : (stored : Stored) (P : Stored → Type 0) (r : Result Stored StoreFault) → P stored → IfOk r (λ kept. kept ≡ stored) → IfOk r P
kept_is stored P (Ok kept) p is = subst P (sym is) p
kept_is stored P (Err fault) p is = tt

-- the same, where it is known only where all went well
kept_so : (stored : Stored) (P : Stored → Type 0) (r : Result Stored StoreFault) → (IsOk r → P stored) → IfOk r (λ kept. kept ≡ stored) → IfOk r P
kept_so stored P (Ok kept) p is = subst P (sym is) (p refl)
kept_so stored P (Err fault) p is = tt

ok_no_err : (fault : StoreFault) → IsOk {T = Stored} {E = StoreFault} (Err fault) → ⊥
ok_no_err fault o = true≢false (sym o)

-- loading ended with a fault, and nothing was removed
pub recovers_fault : (old new : ShareSeen) (account : Bytes) (fault : StoreFault) → Loads old new account (Err fault)
    → Recovers old new account (Err fault)
recovers_fault old new account fault h = record {
  steps = h.steps;
  runs = h.runs;
  few = let few = h.few in omega (arith, few);
  most = λ _. let few = h.few in omega (arith, few);
  spare = h.spare;
  well = λ o. absurd (ok_no_err fault o);
  fails = h.fails;
  made = λ o. absurd (ok_no_err fault o);
  lost = tt;
  coherent = tt;
  loaded = tt;
  kept = λ contents durable keys. reads_hold old.era (is_some old.lost) account durable keys contents h.steps h.reads;
  removes = inl h.reads;
  damaged = λ name e. (h.reads, h.damaged name e);
  safe = h.safe;
}

-- a step's fault tells of no damage
no_damage : (r : Result Stored StoreFault) (name : Bytes) → IfErr r IsStepFault → IsErrOf r (Damaged name) → ⊥
no_damage r name only e = subst (λ x. IfErr x IsStepFault) e only

module _ (old ready asked mid new : ShareSeen) (account : Bytes) (reply : Reply) (same : ready ≡ record old { spare = ready.spare })
    (more : old.spare ≤ ready.spare) (made : Makes ready asked (step_of ready 0 Names reply)) (names : List Bytes) (labels : List ℕ)
    (listed : List Bytes) (loaded : Stored) (plain : IsTrue (is_account_name account)) (are : AreListed names labels listed)
    (is : reply ≡ replies.Listed (names, labels))
    (q : Reads asked mid (true ≡ true) (IsErrOf {T = Stored} (Ok loaded) Failed) 66 (TellsListed account listed (is_some asked.lost) (Ok loaded)))
    (roots : loaded.lost ≡ lost_tree asked.lost) (coherent : IsCoherent account loaded)
    (r : Result Stored StoreFault) (only : IfErr r IsStepFault) (finishes : Finishes (is_some mid.lost) account loaded listed mid new r) where
  abbrev first : Step
  first = step_of ready 0 Names reply

  abbrev lost : Bool
  lost = is_some old.lost

  same_lost : asked.lost ≡ old.lost
  same_lost = lost_same old ready asked account reply same made mid names labels listed (Ok loaded) plain are is q roots

  f : Finishes lost account loaded listed mid new r
  f = subst (λ x. Finishes (is_some x) account loaded listed mid new r) (q.runs.lost ∙ same_lost) finishes

  abbrev removals : List Step
  removals = f.sweeps.tries.steps

  abbrev all_steps : List Step
  all_steps = (first ∷ q.steps) ++ removals

  Found : Contents → Type 0
  Found c = IsFound old ready asked account reply same made mid names labels listed (Ok loaded) plain are is q roots c

  found : (contents c : Contents) → Fold (Does old.era) contents (first ∷ q.steps) c → Found c
  unfolding Found
  found contents c fold = found_after old ready asked account reply same made mid names labels listed (Ok loaded) plain are is q roots contents c fold

  -- the steps are those of the reads, and then of the removals
  runs_all : RunsOver old new all_steps
  runs_all = over_then old mid new (first ∷ q.steps) removals
      (over_then old asked mid (first ∷ []) q.steps (begun old ready asked account reply same made) q.runs)
      (over_then mid f.ready new [] removals (over_stocked mid f.ready f.stocked) (over_run f.ready new removals f.sweeps.tries.runs))

  listed_size : listed_by reply ≡ length listed
  listed_size =
      let perm = length_permutation (names ++ map (leaf_name are.account) labels) listed are.all in
      let both = length-append names (map (leaf_name are.account) labels) in
      let mapped = length-map labels (leaf_name are.account) in
      ap listed_by is ∙ omega (arith, perm, both, mapped)

  few_all : length all_steps ≤ 67 + listed_first all_steps
  few_all =
      let few = q.few in
      let tried = few_follow f.sweeps.writes removals f.sweeps.tries.follows in
      let some = f.sweeps.few in
      let size = listed_size in
      let sum = length-append (first ∷ q.steps) removals in
      omega (arith, few, tried, some, size, sum)

  spare_all : old.spare ≤ new.spare + length all_steps
  spare_all =
      let one = made.spare in
      let two = q.used in
      let three = f.more in
      let four = f.sweeps.tries.runs.spare in
      let sum = length-append (first ∷ q.steps) removals in
      omega (arith, more, one, two, three, four, sum)

  read_at : (c : Contents) → Found c → IsReadOf c account f.stored
  unfolding Found
  read_at c h = read_trimmed loaded f.stored f.trimmed c account (h.told h.lists).whole.is_loaded

  clear_at : (c : Contents) → Found c → c.doubt ≡ None
  unfolding Found
  clear_at c h = h.clear

  -- what is held stays held
  kept_all : (contents : Contents) (durable : Durable) (keys : Keys) → HoldsUnder lost contents account durable keys
      → Throughout (Does old.era) (λ c. HoldsUnder lost c account durable keys) contents all_steps
  kept_all contents durable keys h =
      let first_part = reads_hold old.era lost account durable keys contents (first ∷ q.steps) (tt, q.reads) h in
      throughout_append (Does old.era) (λ c. HoldsUnder lost c account durable keys) contents (first ∷ q.steps) removals first_part
      (λ c fold.
      let at = found contents c fold in
      removals_keep lost account keys plain durable f.stored old.era c f.sweeps.writes removals (clear_at c at) (read_at c at)
      (loose_all lost account f.stored f.sweeps.writes f.sweeps.may) f.sweeps.tries.follows
      (throughout_end (Does old.era) (λ c. HoldsUnder lost c account durable keys) contents c (first ∷ q.steps) first_part fold))

  -- what was read stays there
  read_all : (contents end : Contents) → Fold (Does old.era) contents all_steps end → IsReadOf end account f.stored
  read_all contents end fold =
      let split = fold_split (Does old.era) contents end (first ∷ q.steps) removals fold in
      let at = found contents split.0 split.1 in
      throughout_end (Does old.era) (λ c. IsReadOf c account f.stored) split.0 end removals
      (throughout_follows old.era split.0 f.sweeps.writes removals (λ c. IsReadOf c account f.stored) (clear_at split.0 at)
      (read_along lost account f.stored plain split.0 f.sweeps.writes f.sweeps.may (read_at split.0 at)) f.sweeps.tries.follows)
      split.2

  -- where all went well nothing else is there
  loaded_all : IsOk r → (contents end : Contents) → Fold (Does old.era) contents all_steps end
      → IsKept lost end account f.stored × IsSoundHome lost end account f.stored
  unfolding Found
  loaded_all ok contents end fold =
      let split = fold_split (Does old.era) contents end (first ∷ q.steps) removals fold in
      let at = found contents split.0 split.1 in
      let sound = at.told at.lists in
      let e = after_all old.era split.0 end f.sweeps.writes removals at.clear (f.sweeps.tries.all ok) split.2 in
      subst (λ c. IsKept lost c account f.stored × IsSoundHome lost c account f.stored) (sym e) (
        kept_swept lost account plain split.0 at.clear names listed labels are at.names_are at.labels_are loaded f.stored sound f.trimmed
            f.sweeps.writes f.sweeps.may (f.sweeps.swept ok),
        sound_swept lost account plain split.0 at.clear names listed labels are at.names_are at.labels_are loaded f.stored sound f.trimmed
            f.sweeps.writes f.sweeps.may (f.sweeps.swept ok),
      )

  -- the account is recovered, or a fault was told after some removals
  pub recovers_listed : Recovers old new account r
  recovers_listed = record {
    steps = all_steps;
    runs = runs_all;
    few = few_all;
    most = λ some. let few = few_all in omega (arith, some, few);
    spare = spare_all;
    well = λ ok h. ⊎_elim
        (λ a. went old ready asked account reply same made mid names labels listed (Ok loaded) plain are is q roots refl a)
        (λ a. failed_not_all f.sweeps.writes removals a (f.sweeps.tries.all ok))
        (failed_append (first ∷ q.steps) removals h);
    fails = λ e. failed_later (first ∷ q.steps) removals (f.sweeps.tries.fails e);
    made = λ ok e. let n = ap length e in omega (arith, n);
    lost = kept_is f.stored (λ stored. stored.lost ≡ lost_tree old.lost) r (f.trimmed.lost ∙ roots ∙ ap lost_tree same_lost) f.is;
    coherent = kept_is f.stored (IsCoherent account) r (coherent_trimmed loaded f.stored f.trimmed account coherent) f.is;
    loaded = kept_so f.stored (λ stored. (contents end : Contents) → Fold (Does old.era) contents all_steps end
        → IsKept lost end account stored × IsSoundHome lost end account stored) r loaded_all f.is;
    kept = kept_all;
    removes = inr (record {
      stored = f.stored;
      read = read_all;
      tidying = tidying_then lost account f.stored (first ∷ q.steps) removals (tt, q.reads)
          (tidying_follows lost account f.stored f.sweeps.writes removals f.sweeps.may f.sweeps.tries.follows);
      is = f.is;
    });
    damaged = λ name e. absurd (no_damage r name only e);
    safe = λ name e. absurd (no_damage r name only e);
  }
