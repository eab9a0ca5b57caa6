-- Removals of what may go, one after another.
use Rattle.std.proofs.Common.{◌≡◌, ◌≢◌, ℕ, zero, suc, ◌+◌, ◌<◌, ◌≤◌, List, [], ◌∷◌, ◌++◌, length, take, get_or, Option, None, Some, Result, Ok, Err, Bool, true, false, refl, sym, ap, ◌∙◌, subst, inl, inr, ⊎_elim, IsOk, IsErr, is_some, true≢false, length-append, arith}
use Rattle.std.proofs.lemmas.Bool.{cases_lt}
use Rattle.std.proofs.lemmas.List.{length-take-le, take_all}
use Rattle.std.proofs.lemmas.List.Elements.{Contains-append_left, Contains-append_right, Contains-append_cases}
use Rattle.std.specs.Prelude.{IsErrOf, IfErr, IsTrue, Contains, slice_get}
use Rattle.std.specs.List.{list_any}
use Rattle.std.specs.FinMap.{get, entries, len-entries}
use Rattle.record_names.specs.Names.{is_account_name, IsRecordName, account_of, factor_name, leaf_name}
use Rattle.home_names.specs.Names.{is_factor_label}
use Rattle.factor_files.specs.declared.factor.FactorRecord.{FactorRecord}
use Rattle.share_api.specs.Conditions.{IsFiledName, IsLeafFault, TellsLoss, IsOf}
use Rattle.share_api.specs.Contents.{Bytes}
use Rattle.share_api.specs.Replies.{done_reply}
use Rattle.share_api.specs.Seen.{ShareSeen, Makes, Tries, HasFailed, step_of}
use Rattle.share_api.specs.Steps.{ThenReply, Follows, AllDone}
use Rattle.share_api.specs.declared.fault.ShareFault.{ShareFault}
use Rattle.share_api.specs.declared.fault.ShareFault.TheVariants as shares
use Rattle.share_api.specs.declared.step.Op.TheVariants.{Do}
use Rattle.share_api.specs.declared.step.Reply.{Reply}
use Rattle.share_api.specs.declared.step.Reply.TheVariants as replies
use Rattle.share_api.specs.declared.step.Step.{Step}
use Rattle.share_api.specs.declared.step.Write.{Write}
use Rattle.share_api.specs.declared.step.Write.TheVariants.{Remove, RemoveLeaf}
use Rattle.share_api.proofs.RunLaws.{runs_none, runs_then}
use Rattle.share_api.proofs.TryLaws.{write_tries}
use Rattle.stored_home.specs.Coherent.{IsCoherent, FitsBlock}
use Rattle.stored_home.specs.Loaded.{NamesTree, block_in}
use Rattle.stored_home.proofs.MapLemmas.{from_some, matched_right}
use Rattle.stored_home.specs.declared.fault.StoreFault.{StoreFault}
use Rattle.stored_home.specs.declared.fault.StoreFault.TheVariants as faults
use Rattle.stored_home.specs.declared.stored.Stored.{Stored}
use Rattle.home_recovery.specs.Home.{Row, is_one_leaf}
use Rattle.home_recovery.specs.Parts.{Serves}
use Rattle.home_recovery.specs.Sweeps.{Stays, MayGo, IsSwept, Sweeps, IsTrimmed, Finishes}
use Rattle.home_recovery.specs.Told.{told, told_fault}
use Rattle.home_recovery.proofs.CallLemmas.{not_ok, no_err, same_fault, starved_no_failed}
use Rattle.home_recovery.proofs.FileLemmas.{none_in, in_or_last, split_take}
use Rattle.home_recovery.proofs.RowLemmas.{get_place, get_of_place}
use Rattle.home_recovery.proofs.BoundLemmas.{any_true, any_false, one_leaf, same_leaf}
use Rattle.home_recovery.proofs.OwnNames.{filed_account, filed_not_leaf, leaf_tells, leaf_within}

-- ---- tries in a row

-- what follows a change, by its reply: other changes, or nothing
pub reply_cases : {P : Type 0} (reply : Reply) (next : Type 0) (steps : List Step) → (next → P) → (steps ≡ [] → P)
    → ThenReply reply next steps → P
reply_cases replies.Done next steps more ended t = more t
reply_cases replies.Failed next steps more ended t = ended t
reply_cases replies.TreeLost next steps more ended t = ended t
reply_cases (replies.Found b) next steps more ended t = absurd t
reply_cases (replies.Listed b) next steps more ended t = absurd t
reply_cases (replies.Labelled b) next steps more ended t = absurd t
reply_cases (replies.Tried b) next steps more ended t = absurd t
reply_cases (replies.Fits b) next steps more ended t = absurd t
reply_cases (replies.Viewed b) next steps more ended t = absurd t
reply_cases replies.Damaged next steps more ended t = absurd t
reply_cases replies.NoMemory next steps more ended t = absurd t

-- changes that are tried are no fewer than the steps
pub few_follow : (writes : List Write) (steps : List Step) → Follows writes steps → length steps ≤ length writes
few_follow writes [] f = omega arith
few_follow [] (step ∷ steps) f = absurd f
few_follow (write ∷ writes) (step ∷ steps) f =
    let rest : length steps ≤ length writes = reply_cases step.reply (Follows writes steps) steps (λ t. few_follow writes steps t)
    (λ e. let none = ap length e in omega (arith, none)) f.1 in
    omega (arith, rest)

follows_join : (writes others : List Write) (steps more : List Step) → AllDone writes steps → Follows others more
    → Follows (writes ++ others) (steps ++ more)
follows_join [] others [] more a f = f
follows_join [] others (step ∷ steps) more a f = absurd a
follows_join (write ∷ writes) others [] more a f = absurd a
follows_join (write ∷ writes) others (step ∷ steps) more a f = (
  a.0,
  subst (λ x. ThenReply x (Follows (writes ++ others) (steps ++ more)) (steps ++ more)) (sym a.1)
      (follows_join writes others steps more a.2 f),
)

all_join : (writes others : List Write) (steps more : List Step) → AllDone writes steps → AllDone others more
    → AllDone (writes ++ others) (steps ++ more)
all_join [] others [] more a f = f
all_join [] others (step ∷ steps) more a f = absurd a
all_join (write ∷ writes) others [] more a f = absurd a
all_join (write ∷ writes) others (step ∷ steps) more a f = (a.0, a.1, all_join writes others steps more a.2 f)

failed_later : (steps more : List Step) → HasFailed more → HasFailed (steps ++ more)
failed_later [] more h = h
failed_later (step ∷ steps) more h = inr (failed_later steps more h)

-- changes that are done, and then others
tries_join : (old mid new : ShareSeen) (writes others : List Write) (ok1 failed1 ok2 failed2 ok failed : Type 0)
    → Tries old mid writes ok1 failed1 → ok1 → Tries mid new others ok2 failed2 → (ok → ok2) → (failed → failed2)
    → Tries old new (writes ++ others) ok failed
tries_join old mid new writes others ok1 failed1 ok2 failed2 ok failed p k q well fails = record {
  steps = p.steps ++ q.steps;
  runs = runs_then old mid new p.steps q.steps p.runs q.runs;
  follows = follows_join writes others p.steps q.steps (p.all k) q.follows;
  all = λ o. all_join writes others p.steps q.steps (p.all k) (q.all (well o));
  fails = λ f. failed_later p.steps q.steps (q.fails (fails f));
}

-- ---- answers of the share

pub told_ok : (r : Result Unit ShareFault) → IsOk (told r) → IsOk r
told_ok (Ok x) o = refl
told_ok (Err fault) o = absurd (not_ok o)

pub told_failed : (r : Result Unit ShareFault) → IsErrOf (told r) faults.Failed → IsErr r
told_failed (Ok x) e = absurd (no_err x faults.Failed e)
told_failed (Err fault) e = refl

-- a call on a leaf of a tree that isn't lost fails in no other way
pub only_failed : (lost : Option (Bytes × Bytes)) (r : Result Unit ShareFault) → lost ≡ None → TellsLoss lost r → IfErr r IsLeafFault
    → IsErr r → IsErrOf r shares.Failed
only_failed lost (Ok x) whole tells only e = absurd (true≢false (sym e))
only_failed lost (Err shares.Failed) whole tells only e = refl
only_failed lost (Err (shares.TreeLost host chip)) whole tells only e =
    absurd (subst (λ o. TellsLoss {A = Unit} o (Err (shares.TreeLost host chip))) whole tells host chip (the_same (Err (shares.TreeLost host chip))))
  where
    the_same : (x : Result Unit ShareFault) → x ≡ x
    the_same x = refl
only_failed lost (Err (shares.Damaged name)) whole tells only e = absurd only
only_failed lost (Err shares.NoMemory) whole tells only e = absurd only

-- a share's failure is the store's
pub told_only : (r : Result Unit ShareFault) → (IsErr r → IsErrOf r shares.Failed) → IsErr (told r) → IsErrOf (told r) faults.Failed
told_only (Ok x) only e = absurd (true≢false (sym e))
told_only (Err fault) only e =
    let same : fault ≡ shares.Failed = share_fault fault shares.Failed (only refl) in
    ap (λ (f : ShareFault). Err (told_fault f)) same
  where
    share_fault : (e f : ShareFault) → ◌≡◌ {A = Result Unit ShareFault} (Err e) (Err f) → e ≡ f
    share_fault e f q = cc

-- ---- sweeps

module _ (lost : Bool) (account : Bytes) (stored : Stored) where
  -- what is told of more removals too
  swept_more : (writes others : List Write) (name : Bytes) → IsSwept lost account stored writes name
      → IsSwept lost account stored (writes ++ others) name
  swept_more writes others name h = record {
    filed = λ is. ⊎_elim inl (λ w. inr (Contains-append_left writes others (Remove name) w)) (h.filed is);
    leaf = λ whole one tree plain is. ⊎_elim inl (λ w. inr (Contains-append_left writes others (RemoveLeaf tree) w)) (h.leaf whole one tree plain is);
  }

  swept_after : (writes others : List Write) (name : Bytes) → IsSwept lost account stored others name
      → IsSwept lost account stored (writes ++ others) name
  swept_after writes others name h = record {
    filed = λ is. ⊎_elim inl (λ w. inr (Contains-append_right writes others (Remove name) w)) (h.filed is);
    leaf = λ whole one tree plain is. ⊎_elim inl (λ w. inr (Contains-append_right writes others (RemoveLeaf tree) w)) (h.leaf whole one tree plain is);
  }

  -- nothing is removed
  pub sweeps_none : (listed : List Bytes) (seen : ShareSeen) (ok failed : Type 0) → (failed → ⊥)
      → (ok → (name : Bytes) → Contains listed name → IsSwept lost account stored [] name)
      → Sweeps lost account stored listed seen seen ok failed
  sweeps_none listed seen ok failed none swept = record {
    writes = [];
    tries = record { steps = []; runs = runs_none seen; follows = tt; all = λ _. tt; fails = λ f. absurd (none f) };
    few = omega arith;
    may = λ write h. absurd (none_in write h);
    swept = swept;
  }

  -- what the one name stands for stays
  pub sweeps_stay : (name : Bytes) (seen : ShareSeen) → IsSwept lost account stored [] name
      → Sweeps lost account stored (name ∷ []) seen seen (true ≡ true) (IsErrOf {T = Unit} (Ok tt) faults.Failed)
  sweeps_stay name seen swept = sweeps_none (name ∷ []) seen (true ≡ true) (IsErrOf {T = Unit} (Ok tt) faults.Failed)
      (λ f. no_err tt faults.Failed f) (λ _ q h. ⊎_elim (λ before. absurd (none_in q before))
      (λ same. subst (λ (n : Bytes). IsSwept lost account stored [] n) same swept) (in_or_last [] name q h))

  -- or it is tried to be removed
  pub sweeps_one : (name : Bytes) (old new : ShareSeen) (moment : ℕ) (write : Write) (r : Result Unit ShareFault)
      → Makes old new (step_of old moment (Do write) (done_reply r)) → (IsErr r → IsErrOf r shares.Failed)
      → MayGo lost account stored write → IsSwept lost account stored (write ∷ []) name
      → Sweeps lost account stored (name ∷ []) old new (IsOk (told r)) (IsErrOf (told r) faults.Failed)
  sweeps_one name old new moment write r made only may swept = record {
    writes = write ∷ [];
    tries = write_tries old new moment write (IsOk (told r)) (IsErrOf (told r) faults.Failed) r (told_ok r) (told_failed r) made only;
    few = omega arith;
    may = λ other h. ⊎_elim (λ before. absurd (none_in other before))
        (λ same. subst (MayGo lost account stored) same may) (in_or_last [] write other h);
    swept = λ _ q h. ⊎_elim (λ before. absurd (none_in q before))
        (λ same. subst (λ (n : Bytes). IsSwept lost account stored (write ∷ []) n) same swept) (in_or_last [] name q h);
  }

  -- one name more
  pub sweeps_then : (listed : List Bytes) (name : Bytes) (old mid new : ShareSeen) (ok1 failed1 ok2 failed2 ok failed : Type 0)
      → Sweeps lost account stored listed old mid ok1 failed1 → ok1
      → Sweeps lost account stored (name ∷ []) mid new ok2 failed2 → (ok → ok2) → (failed → failed2)
      → Sweeps lost account stored (listed ++ name ∷ []) old new ok failed
  sweeps_then listed name old mid new ok1 failed1 ok2 failed2 ok failed p k q well fails = record {
    writes = p.writes ++ q.writes;
    tries = tries_join old mid new p.writes q.writes ok1 failed1 ok2 failed2 ok failed p.tries k q.tries well fails;
    few = let one = p.few in let two = q.few in
        omega (arith, one, two, length-append p.writes q.writes, length-append listed (name ∷ []));
    may = λ write h. ⊎_elim (λ first. p.may write first)
        (λ later. q.may write later) (Contains-append_cases p.writes q.writes write h);
    swept = λ o other h. ⊎_elim
        (λ before. swept_more p.writes q.writes other (p.swept k other before))
        (λ same. swept_after p.writes q.writes other (q.swept (well o) other
        (subst (λ (n : Bytes). Contains (name ∷ []) n) same (0, omega arith, refl))))
        (in_or_last listed name other h);
  }

  -- a removal failed, so no more names were gone through
  pub sweeps_failed : (some listed : List Bytes) (old new : ShareSeen) (ok1 failed1 ok failed : Type 0)
      → Sweeps lost account stored some old new ok1 failed1 → length some ≤ length listed → (ok → ⊥) → (failed → failed1)
      → Sweeps lost account stored listed old new ok failed
  sweeps_failed some listed old new ok1 failed1 ok failed p within none fails = record {
    writes = p.writes;
    tries = record {
      steps = p.tries.steps;
      runs = p.tries.runs;
      follows = p.tries.follows;
      all = λ o. absurd (none o);
      fails = λ f. p.tries.fails (fails f);
    };
    few = let one = p.few in omega (arith, one, within);
    may = p.may;
    swept = λ o. absurd (none o);
  }

  -- all names were gone through
  pub sweeps_all : (some listed : List Bytes) (old new : ShareSeen) (ok1 failed1 ok failed : Type 0)
      → Sweeps lost account stored some old new ok1 failed1 → some ≡ listed → ok1 → (failed → ⊥)
      → Sweeps lost account stored listed old new ok failed
  sweeps_all some listed old new ok1 failed1 ok failed p same k none = subst (λ (xs : List Bytes). Sweeps lost account stored xs old new ok failed) same (record {
    writes = p.writes;
    tries = record {
      steps = p.tries.steps;
      runs = p.tries.runs;
      follows = p.tries.follows;
      all = λ _. p.tries.all k;
      fails = λ f. absurd (none f);
    };
    few = p.few;
    may = p.may;
    swept = λ _. p.swept k;
  })

  -- ---- what a name stands for

  -- another account's record, or a leaf of a lost tree or that is named
  pub swept_other : (name : Bytes) → (IsFiledName account name → ⊥)
      → (lost ≡ false → (one : Bytes) (tree : ℕ) → IsTrue (is_account_name one) → name ≡ leaf_name one tree → NamesTree stored tree)
      → IsSwept lost account stored [] name
  swept_other name none named = record {
    filed = λ is. absurd (none is);
    leaf = λ whole one tree plain is. inl (named whole one tree plain is);
  }

  -- no leaf has the name
  no_leaf_here : (name : Bytes) (writes : List Write) → IsRecordName name
      → ((one : Bytes) (label : ℕ) → IsTrue (is_account_name one) → label < 16384 → name ≡ leaf_name one label → ⊥)
      → (one : Bytes) (tree : ℕ) → IsTrue (is_account_name one) → name ≡ leaf_name one tree → ⊥
  no_leaf_here name writes is none one tree plain e = none one tree plain (leaf_within name one tree is plain e) e

  -- a record that stays
  pub swept_stays : (name : Bytes) → IsRecordName name
      → ((one : Bytes) (label : ℕ) → IsTrue (is_account_name one) → label < 16384 → name ≡ leaf_name one label → ⊥)
      → Stays account stored name → IsSwept lost account stored [] name
  swept_stays name is none stays = record {
    filed = λ _. inl stays;
    leaf = λ whole one tree plain e. absurd (no_leaf_here name [] is none one tree plain e);
  }

  -- another account's record
  pub swept_foreign : (name : Bytes) → IsTrue (is_account_name account) → IsRecordName name
      → ((one : Bytes) (label : ℕ) → IsTrue (is_account_name one) → label < 16384 → name ≡ leaf_name one label → ⊥)
      → account_of name ≢ account → IsSwept lost account stored [] name
  swept_foreign name plain is none apart = record {
    filed = λ filed. absurd (apart (filed_account account plain name filed));
    leaf = λ whole one tree other e. absurd (no_leaf_here name [] is none one tree other e);
  }

  -- a record that is removed
  pub swept_removed : (name : Bytes) → IsRecordName name
      → ((one : Bytes) (label : ℕ) → IsTrue (is_account_name one) → label < 16384 → name ≡ leaf_name one label → ⊥)
      → IsSwept lost account stored (Remove name ∷ []) name
  swept_removed name is none = record {
    filed = λ _. inr (0, omega arith, refl);
    leaf = λ whole one tree plain e. absurd (no_leaf_here name [] is none one tree plain e);
  }

  module _ (plain : IsTrue (is_account_name account)) (name own : Bytes) (label : ℕ) (own_plain : IsTrue (is_account_name own))
      (named : name ≡ leaf_name own label) where
    -- a leaf of a lost tree
    pub leaf_lost : lost ≡ true → IsSwept lost account stored [] name
    leaf_lost gone = record {
      filed = λ filed. absurd (filed_not_leaf account plain name own label own_plain filed named);
      leaf = λ whole. absurd (true≢false (sym gone ∙ whole));
    }

    -- a leaf that is named
    pub leaf_stays : NamesTree stored label → IsSwept lost account stored [] name
    leaf_stays names = record {
      filed = λ filed. absurd (filed_not_leaf account plain name own label own_plain filed named);
      leaf = λ whole one tree other e. inl (subst (NamesTree stored) (leaf_tells own one label tree own_plain other (sym named ∙ e)) names);
    }

    -- a leaf that is removed
    pub leaf_removed : IsSwept lost account stored (RemoveLeaf label ∷ []) name
    leaf_removed = record {
      filed = λ filed. absurd (filed_not_leaf account plain name own label own_plain filed named);
      leaf = λ whole one tree other e. inr (subst (λ (t : ℕ). Contains (RemoveLeaf label ∷ []) (RemoveLeaf t))
          (leaf_tells own one label tree own_plain other (sym named ∙ e)) (0, omega arith, refl));
    }

-- ---- leaves that are named

module _ (stored : Stored) (label : ℕ) where
  -- where a row names the leaf, the loaded state does
  pub named_by : list_any (λ (row : Row). is_one_leaf row.1.leaf (Some label)) (entries stored.factors) ≡ true → NamesTree stored label
  named_by e =
      let a = any_true (λ (row : Row). is_one_leaf row.1.leaf (Some label)) (entries stored.factors) e in
      let leaf = one_leaf a.1.1.leaf (Some label) a.3 in
      (a.1.0, a.1.1, get_of_place stored.factors a.0 a.1.0 a.1.1 a.2, leaf.1 ∙ sym leaf.2)

  pub not_named_by : list_any (λ (row : Row). is_one_leaf row.1.leaf (Some label)) (entries stored.factors) ≡ false → NamesTree stored label → ⊥
  not_named_by e n =
      let at = get_place stored.factors n.0 n.1 n.2 in
      true≢false (sym (same_leaf n.1.leaf (Some label) label n.3 refl)
      ∙ any_false (λ (row : Row). is_one_leaf row.1.leaf (Some label)) (entries stored.factors) at.0 (n.0, n.1) e at.2)

-- no roots are told where none are there
pub no_roots : (roots : Option (Bytes × Bytes)) → is_some roots ≡ false → roots ≡ None
no_roots None e = refl
no_roots (Some roots) e = absurd (true≢false e)

-- ---- rows by place

get_at : {X : Type 0} (xs : List X) (k : ℕ) (x : X) → k < length xs → x ≡ get_or xs k x → slice_get xs k ≡ Some x
get_at {X} [] k x within is = absurd (omega (arith, within))
get_at {X} (y ∷ ys) zero x within is = ap (λ (z : X). Some z) (sym is)
get_at {X} (y ∷ ys) (suc k) x within is = get_at ys k x (omega (arith, within)) is

module _ (account : Bytes) (stored : Stored) (rows : List Row) (are : rows ≡ entries stored.factors) (k : ℕ) (item : Row)
    (within : k < length rows) (is : item ≡ get_or rows k item) where
  -- what stands at the place
  pub row_stands : slice_get rows k ≡ Some item
  row_stands = get_at rows k item within is

  -- is there
  pub row_there : get stored.factors item.0 ≡ Some item.1
  row_there = get_of_place stored.factors k item.0 item.1 (ap (λ (xs : List Row). slice_get xs k) (sym are) ∙ row_stands)

  -- and its label is one of a factor
  pub row_labelled : IsCoherent account stored → IsTrue (is_factor_label item.0)
  row_labelled coherent =
      let x = matched_right (FitsBlock item.0) (block_in stored.stash item.0) (get stored.factors item.0) item.1 row_there (coherent.rows item.0) in
      subst (λ (l : Bytes). IsTrue (is_factor_label l)) x.2.label_is x.2.plain.label

-- no row so far has the name, and neither has this one
pub none_more : (account name : Bytes) (rows : List Row) (at : ℕ) (item : Row) → slice_get rows at ≡ Some item
    → ((k : ℕ) (row : Row) → k < at → slice_get rows k ≡ Some row → factor_name account row.0 row.1.edition ≢ name)
    → factor_name account item.0 item.1.edition ≢ name
    → (k : ℕ) (row : Row) → k < at + 1 → slice_get rows k ≡ Some row → factor_name account row.0 row.1.edition ≢ name
none_more account name rows at item stands before apart k row within there = ⊎_elim
    (λ lt. before k row lt there)
    (λ ge.
    let above = ge in
    let same : k ≡ at = omega (arith, within, above) in
    let one : item ≡ row = from_some item row (sym stands ∙ ap (slice_get rows) (sym same) ∙ there) in
    subst (λ (r : Row). factor_name account r.0 r.1.edition ≢ name) one apart)
    (cases_lt k at)

-- then no factor's record has it
pub none_at_all : (account name : Bytes) (stored : Stored) (rows : List Row) (at : ℕ) → rows ≡ entries stored.factors → length rows ≤ at
    → ((k : ℕ) (row : Row) → k < at → slice_get rows k ≡ Some row → factor_name account row.0 row.1.edition ≢ name)
    → (label : Bytes) (row : FactorRecord) → get stored.factors label ≡ Some row → factor_name account label row.edition ≢ name
none_at_all account name stored rows at are past before label row there =
    let place = get_place stored.factors label row there in
    let within = place.1 in
    let size = ap length are in
    before place.0 (label, row) (omega (arith, within, past, size, len-entries stored.factors))
    (ap (λ (xs : List Row). slice_get xs place.0) are ∙ place.2)

-- ---- a sweep so far

module _ (lost : Bool) (account : Bytes) (stored : Stored) (listed : List Bytes) (k : ℕ) (old new : ShareSeen) (ok failed : Type 0)
    (sweeps : Sweeps lost account stored (take k listed) old new ok failed) where
  -- a call is left for the next name
  pub sweep_room : k < length listed → length listed ≤ old.spare → 1 ≤ new.spare
  sweep_room within room =
      let spare = sweeps.tries.runs.spare in
      let tried = few_follow sweeps.writes sweeps.tries.steps sweeps.tries.follows in
      let few = sweeps.few in
      let size = length-take-le k listed (omega (arith, within)) in
      omega (arith, within, room, spare, tried, few, size)

  -- the share serves the account as before
  pub sweep_serves : Serves account old → Serves account new
  sweep_serves s = record { plain = s.plain; own = subst (λ o. IsOf o account) (sym sweeps.tries.runs.owner) s.own }

module _ (account : Bytes) (stored : Stored) (listed : List Bytes) (k : ℕ) (old mid new : ShareSeen)
    (sweeps : Sweeps (is_some old.lost) account stored (take k listed) old mid (Unit {0}) ⊥) where
  -- the next name's part, under the tree as it was
  next_part : (item : Bytes) (ok failed : Type 0) → Sweeps (is_some mid.lost) account stored (item ∷ []) mid new ok failed
      → Sweeps (is_some old.lost) account stored (item ∷ []) mid new ok failed
  next_part item ok failed h = subst (λ o. Sweeps (is_some o) account stored (item ∷ []) mid new ok failed) sweeps.tries.runs.lost h

  -- the next name was gone through
  pub sweep_goes_on : (item : Bytes) → k < length listed → item ≡ get_or listed k item
      → Sweeps (is_some mid.lost) account stored (item ∷ []) mid new (true ≡ true) (IsErrOf {T = Unit} (Ok tt) faults.Failed)
      → Sweeps (is_some old.lost) account stored (take (k + 1) listed) old new (Unit {0}) ⊥
  sweep_goes_on item within is h =
      subst (λ (xs : List Bytes). Sweeps (is_some old.lost) account stored xs old new (Unit {0}) ⊥) (sym (split_take listed k item within is))
      (sweeps_then (is_some old.lost) account stored (take k listed) item old mid new (Unit {0}) ⊥ (true ≡ true) (IsErrOf {T = Unit} (Ok tt) faults.Failed)
      (Unit {0}) ⊥ sweeps tt (next_part item (true ≡ true) (IsErrOf {T = Unit} (Ok tt) faults.Failed) h) (λ o. refl) (λ f. absurd f))

  -- its removal failed
  pub sweep_ends : (item : Bytes) (fault : StoreFault) → k < length listed
      → Sweeps (is_some mid.lost) account stored (item ∷ []) mid new (false ≡ true) (IsErrOf {T = Unit} (Err fault) faults.Failed)
      → Sweeps (is_some old.lost) account stored listed old new (false ≡ true) (IsErrOf {T = Unit} (Err fault) faults.Failed)
  sweep_ends item fault within h =
      sweeps_failed (is_some old.lost) account stored (take k listed ++ item ∷ []) listed old new (false ≡ true)
      (IsErrOf {T = Unit} (Err fault) faults.Failed) (false ≡ true) (IsErrOf {T = Unit} (Err fault) faults.Failed)
      (sweeps_then (is_some old.lost) account stored (take k listed) item old mid new (Unit {0}) ⊥ (false ≡ true) (IsErrOf {T = Unit} (Err fault) faults.Failed)
      (false ≡ true) (IsErrOf {T = Unit} (Err fault) faults.Failed) sweeps tt (next_part item (false ≡ true) (IsErrOf {T = Unit} (Err fault) faults.Failed) h)
      (λ o. o) (λ f. f))
      (let size = length-take-le k listed (omega (arith, within)) in
      let sum = length-append (take k listed) (item ∷ []) in
      omega (arith, within, size, sum))
      (λ o. not_ok o) (λ f. f)

-- all names were gone through
pub sweep_done : (account : Bytes) (stored : Stored) (listed : List Bytes) (k : ℕ) (old new : ShareSeen)
    → Sweeps (is_some old.lost) account stored (take k listed) old new (Unit {0}) ⊥ → length listed ≤ k
    → Sweeps (is_some old.lost) account stored listed old new (true ≡ true) (IsErrOf {T = Unit} (Ok tt) faults.Failed)
sweep_done account stored listed k old new sweeps past =
    sweeps_all (is_some old.lost) account stored (take k listed) listed old new (Unit {0}) ⊥ (true ≡ true) (IsErrOf {T = Unit} (Ok tt) faults.Failed)
    sweeps (take_all k listed past) tt (λ f. no_err tt faults.Failed f)

-- ---- a sweep's answer as that of what goes on

err_stored : (fault : StoreFault) → IsErrOf {T = Stored} (Err fault) faults.Failed → IsErrOf {T = Unit} (Err fault) faults.Failed
err_stored fault e = ap Err (same_fault fault faults.Failed e)

module _ (lost : Bool) (account : Bytes) (loaded stored : Stored) (listed : List Bytes) (old ready new : ShareSeen)
    (trimmed : IsTrimmed loaded stored) (same : ready ≡ record old { spare = ready.spare }) (more : old.spare ≤ ready.spare)
    (lost_is : lost ≡ is_some old.lost) where
  ready_lost : is_some ready.lost ≡ lost
  ready_lost = ap (λ (s : ShareSeen). is_some s.lost) same ∙ sym lost_is

  -- no call could be stocked
  pub finishes_starved : Finishes lost account loaded listed old ready (Err faults.NoMemory)
  finishes_starved = record {
    stored = stored;
    trimmed = trimmed;
    ready = ready;
    stocked = same;
    more = more;
    sweeps = sweeps_none lost account stored listed ready (false ≡ true) (IsErrOf {T = Stored} (Err faults.NoMemory) faults.Failed)
        (λ f. starved_no_failed f) (λ o. absurd (not_ok o));
    is = tt;
  }

  -- a removal failed
  pub finishes_failed : (fault : StoreFault)
      → Sweeps (is_some ready.lost) account stored listed ready new (false ≡ true) (IsErrOf {T = Unit} (Err fault) faults.Failed)
      → Finishes lost account loaded listed old new (Err fault)
  finishes_failed fault h = record {
    stored = stored;
    trimmed = trimmed;
    ready = ready;
    stocked = same;
    more = more;
    sweeps = subst (λ b. Sweeps b account stored listed ready new (false ≡ true) (IsErrOf {T = Stored} (Err fault) faults.Failed)) ready_lost
        (sweeps_failed (is_some ready.lost) account stored listed listed ready new (false ≡ true) (IsErrOf {T = Unit} (Err fault) faults.Failed)
        (false ≡ true) (IsErrOf {T = Stored} (Err fault) faults.Failed) h (omega arith) (λ o. not_ok o) (err_stored fault));
    is = tt;
  }

  -- all is removed
  pub finishes_done : Sweeps (is_some ready.lost) account stored listed ready new (true ≡ true) (IsErrOf {T = Unit} (Ok tt) faults.Failed)
      → Finishes lost account loaded listed old new (Ok stored)
  finishes_done h = record {
    stored = stored;
    trimmed = trimmed;
    ready = ready;
    stocked = same;
    more = more;
    sweeps = subst (λ b. Sweeps b account stored listed ready new (true ≡ true) (IsErrOf {T = Stored} (Ok stored) faults.Failed)) ready_lost
        (sweeps_all (is_some ready.lost) account stored listed listed ready new (true ≡ true) (IsErrOf {T = Unit} (Ok tt) faults.Failed)
        (true ≡ true) (IsErrOf {T = Stored} (Ok stored) faults.Failed) h refl refl (λ f. no_err stored faults.Failed f));
    is = refl;
  }
