-- Loading, once names are listed.
use Rattle.std.proofs.Common.{◌≡◌, ℕ, zero, suc, ◌<◌, ◌≤◌, List, [], ◌∷◌, ◌++◌, map, length, get_or, None, Some, Result, Ok, Err, refl, sym, ap, ◌∙◌, subst, inl, inr, ⊎_elim, IsOk, is_some, arith}
use Rattle.std.specs.Prelude.{IsErrOf, IfOk, IsSome, IsTrue, Contains, slice_get}
use Rattle.std.specs.List.{after_first}
use Rattle.std.specs.Ordering.{nat_cmp}
use Rattle.std.specs.Cmp.Lexicographic.{slice_cmp}
use Rattle.std.specs.FinMap.{FinMap, get, keys, entries}
use Rattle.std.proofs.lemmas.List.Elements.{Contains-append_left, Contains-append_cases}
use Rattle.std.proofs.lemmas.List.Sorted.{IsPermutation-sym, Contains-permutation}
use Rattle.record_names.specs.Names.{is_account_name, Leaf, File, tail_of, leaf_name, file_name, is_full_stop}
use Rattle.record_names.proofs.NameLemmas.{tail_is, after_full_stop, bytes-account}
use Rattle.share_api.specs.Contents.{Bytes, Contents, settled}
use Rattle.share_api.specs.Folds.{Fold}
use Rattle.share_api.specs.Replies.{AreListed}
use Rattle.share_api.specs.Seen.{ShareSeen, Makes, HasFailed, step_of}
use Rattle.share_api.specs.Steps.{Does, Leads}
use Rattle.share_api.specs.declared.step.Op.TheVariants.{Names}
use Rattle.share_api.specs.declared.step.Reply.{Reply}
use Rattle.share_api.specs.declared.step.Reply.TheVariants as replies
use Rattle.share_api.specs.declared.step.Step.{Step}
use Rattle.stored_home.proofs.MapLemmas.{some_is, from_some, not_None}
use Rattle.stored_home.specs.declared.fault.StoreFault.{StoreFault}
use Rattle.stored_home.specs.declared.fault.StoreFault.TheVariants.{Failed, Damaged, NoMemory, TreeLost}
use Rattle.stored_home.specs.declared.stored.Stored.{Stored}
use Rattle.home_recovery.specs.Damage.{IsDamaged, IsSoundHome}
use Rattle.home_recovery.specs.Home.{TellsListed, ListsFiles}
use Rattle.home_recovery.specs.Loads.{Loads}
use Rattle.home_recovery.specs.Parts.{IsFaultReply}
use Rattle.home_recovery.specs.Reading.{RunsOver, Reads}
use Rattle.home_recovery.specs.Told.{lost_tree}
use Rattle.home_recovery.proofs.ReadLemmas.{over_one, over_then, over_stocked, reads_stay}
use Rattle.share_api.proofs.FoldLaws.{throughout_end}
use Rattle.stored_home.specs.Holds.{HoldsUnder}
use Rattle.home_recovery.proofs.HeldLemmas.{held_undamaged}
use Rattle.home_recovery.proofs.KeptLemmas.{reads_hold}
use Rattle.home_recovery.proofs.CallLemmas.{not_ok}
use Rattle.home_recovery.proofs.RowLemmas.{get_place, get_of_place}

-- ---- names that are listed

module _ {X : Type 0} where
  -- a key that is among the keys has its entry, and an entry's is
  key_place : (es : List (Bytes × X)) (k : ℕ) (q : Bytes) → k < length (map (λ (e : Bytes × X). e.0) es)
      → get_or (map (λ (e : Bytes × X). e.0) es) k q ≡ q → (x : X) × (slice_get es k ≡ Some (q, x))
  key_place [] k q within is = absurd (omega (arith, within))
  key_place (e ∷ es) zero q within is = (e.1, λ i. Some (is i, e.1))
  key_place (e ∷ es) (suc k) q within is = key_place es k q (omega (arith, within)) is

  place_key : (es : List (Bytes × X)) (k : ℕ) (q : Bytes) (x : X) → slice_get es k ≡ Some (q, x)
      → (k < length (map (λ (e : Bytes × X). e.0) es)) × (get_or (map (λ (e : Bytes × X). e.0) es) k q ≡ q)
  place_key [] k q x at = absurd (not_None (q, x) (sym at))
  place_key (e ∷ es) zero q x at = (omega arith, ap (λ (f : Bytes × X). f.0) (from_some e (q, x) at))
  place_key (e ∷ es) (suc k) q x at = let rest = place_key es k q x at in let within = rest.0 in (omega (arith, within), rest.1)

  pub in_keys : (m : FinMap (slice_cmp nat_cmp) X) (q : Bytes) → IsSome (get m q) → Contains (keys m) q
  in_keys m q there =
      let x = some_is (get m q) there in
      let place = get_place m q x.0 x.1 in
      let h = place_key (entries m) place.0 q x.0 place.2 in
      (place.0, h.0, h.1)

  pub key_there : (m : FinMap (slice_cmp nat_cmp) X) (q : Bytes) → Contains (keys m) q → IsSome (get m q)
  key_there m q h =
      let x = key_place (entries m) h.0 q h.1 h.2 in
      subst IsSome (sym (get_of_place m h.0 q x.0 x.1)) refl

-- a leaf's name is no vault file's, whatever its label
leaf_not_file : (one account : Bytes) (label : ℕ) (file : Bytes) → IsTrue (is_account_name one) → IsTrue (is_account_name account)
    → leaf_name one label ≡ file_name account file → ⊥
leaf_not_file one account label file p q e =
    let tails : tail_of (Leaf one label) ≡ tail_of (File account file) =
    sym (after_full_stop one (tail_of (Leaf one label)) (bytes-account one p))
    ∙ ap (after_first is_full_stop) (ap (λ (rest : Bytes). one ++ rest) (sym (tail_is (Leaf one label))) ∙ e ∙ ap (λ (rest : Bytes). account ++ rest) (tail_is (File account file)))
    ∙ after_full_stop account (tail_of (File account file)) (bytes-account account q) in
    let x : ◌≡◌ {A = ℕ} 108 102 = ap (λ (bytes : Bytes). get_or bytes 0 0) tails in
    absurd (omega (arith, x))

-- a leaf's name among those of labels
leaf_among : (one : Bytes) (labels : List ℕ) (k : ℕ) (q : Bytes) → k < length (map (leaf_name one) labels)
    → get_or (map (leaf_name one) labels) k q ≡ q → (label : ℕ) × (leaf_name one label ≡ q)
leaf_among one [] k q within is = absurd (omega (arith, within))
leaf_among one (label ∷ labels) zero q within is = (label, is)
leaf_among one (label ∷ labels) (suc k) q within is = leaf_among one labels k q (omega (arith, within)) is

-- the vault files that are there are those listed
pub lists_files : (account : Bytes) (names : List Bytes) (labels : List ℕ) (listed : List Bytes) (c : Contents)
    → IsTrue (is_account_name account) → AreListed names labels listed → names ≡ keys c.records → ListsFiles account listed c
lists_files account names labels listed c plain are same = λ file parts. (
  λ among. key_there c.records (file_name account file)
      (subst (λ (xs : List Bytes). Contains xs (file_name account file)) same
      (⊎_elim (λ h. h)
      (λ h. let leaf = leaf_among are.account labels h.0 (file_name account file) h.1 h.2 in
      absurd (leaf_not_file are.account account leaf.0 file are.plain plain leaf.1))
      (Contains-append_cases names (map (leaf_name are.account) labels) (file_name account file)
      (Contains-permutation listed (names ++ map (leaf_name are.account) labels) (file_name account file)
      (IsPermutation-sym (names ++ map (leaf_name are.account) labels) listed are.all) among)))),
  λ there. Contains-permutation (names ++ map (leaf_name are.account) labels) listed (file_name account file) are.all
      (Contains-append_left names (map (leaf_name are.account) labels) (file_name account file)
      (subst (λ (xs : List Bytes). Contains xs (file_name account file)) (sym same) (in_keys c.records (file_name account file) there))),
)

-- the names of a listing
abbrev names_in : Reply → List Bytes
names_in replies.Done = []
names_in (replies.Found found) = []
names_in (replies.Listed listing) = listing.0
names_in (replies.Labelled label) = []
names_in (replies.Tried answer) = []
names_in (replies.Fits fits) = []
names_in (replies.Viewed view) = []
names_in replies.TreeLost = []
names_in replies.Damaged = []
names_in replies.Failed = []
names_in replies.NoMemory = []

-- and its labels
abbrev labels_in : Reply → List ℕ
labels_in replies.Done = []
labels_in (replies.Found found) = []
labels_in (replies.Listed listing) = listing.1
labels_in (replies.Labelled label) = []
labels_in (replies.Tried answer) = []
labels_in (replies.Fits fits) = []
labels_in (replies.Viewed view) = []
labels_in replies.TreeLost = []
labels_in replies.Damaged = []
labels_in replies.Failed = []
labels_in replies.NoMemory = []

-- ---- how loading ends

starved_no_damage : (name : Bytes) → ◌≡◌ {A = Result Stored StoreFault} (Err NoMemory) (Err (Damaged name)) → ⊥
starved_no_damage name e = cc

failed_no_damage : (name : Bytes) → ◌≡◌ {A = Result Stored StoreFault} (Err Failed) (Err (Damaged name)) → ⊥
failed_no_damage name e = cc

starved_no_fail : ◌≡◌ {A = Result Stored StoreFault} (Err NoMemory) (Err Failed) → ⊥
starved_no_fail e = cc

-- no call could be stocked
pub loads_starved : (old new : ShareSeen) (account : Bytes) → new ≡ record old { spare = new.spare } → old.spare ≤ new.spare
    → Loads old new account (Err NoMemory)
loads_starved old new account same more = record {
  steps = [];
  runs = over_stocked old new same;
  reads = tt;
  few = omega arith;
  spare = omega (arith, more);
  well = λ o h. h;
  fails = λ e. absurd (starved_no_fail e);
  made = λ o e. not_ok o;
  lost = tt;
  loaded = tt;
  damaged = λ name e. absurd (starved_no_damage name e);
  safe = λ name e. absurd (starved_no_damage name e);
}

module _ (old ready asked : ShareSeen) (account : Bytes) (reply : Reply) (same : ready ≡ record old { spare = ready.spare })
    (made : Makes ready asked (step_of ready 0 Names reply)) where
  abbrev first : Step
  first = step_of ready 0 Names reply

  pub begun : RunsOver old asked (first ∷ [])
  begun = over_then old ready asked [] (first ∷ []) (over_stocked old ready same) (over_one ready asked first made)

  -- the names couldn't be listed
  pub loads_unlisted : (fault : StoreFault) → old.spare ≤ ready.spare → IsFaultReply fault reply → Loads old asked account (Err fault)
  loads_unlisted Failed more is = record {
    steps = first ∷ [];
    runs = begun;
    reads = (tt, tt);
    few = omega arith;
    spare = omega (arith, more, made.spare);
    well = λ o h. not_ok o;
    fails = λ e. inl is;
    made = λ o e. not_ok o;
    lost = tt;
    loaded = tt;
    damaged = λ name e. absurd (failed_no_damage name e);
    safe = λ name e. absurd (failed_no_damage name e);
  }
  loads_unlisted NoMemory more is = record {
    steps = first ∷ [];
    runs = begun;
    reads = (tt, tt);
    few = omega arith;
    spare = omega (arith, more, made.spare);
    well = λ o h. not_ok o;
    fails = λ e. absurd (starved_no_fail e);
    made = λ o e. not_ok o;
    lost = tt;
    loaded = tt;
    damaged = λ name e. absurd (starved_no_damage name e);
    safe = λ name e. absurd (starved_no_damage name e);
  }
  loads_unlisted (Damaged name) more is = absurd is
  loads_unlisted (TreeLost host chip) more is = absurd is

  module _ (new : ShareSeen) (names : List Bytes) (labels : List ℕ) (listed : List Bytes) (r : Result Stored StoreFault)
      (plain : IsTrue (is_account_name account)) (are : AreListed names labels listed) (is : reply ≡ replies.Listed (names, labels))
      (q : Reads asked new (IsOk r) (IsErrOf r Failed) 66 (TellsListed account listed (is_some asked.lost) r))
      (roots : IfOk r (λ stored. stored.lost ≡ lost_tree asked.lost)) where
    pub lost_same : asked.lost ≡ old.lost
    lost_same = made.lost ∙ ap (λ (s : ShareSeen). s.lost) same

    era_same : asked.era ≡ old.era
    era_same = made.era ∙ ap (λ (s : ShareSeen). s.era) same

    listing : (one two : List Bytes) (three four : List ℕ) → ◌≡◌ {A = Reply} (replies.Listed (one, three)) (replies.Listed (two, four)) → one ≡ two
    listing one two three four e = ap names_in e

    labelling : (one two : List Bytes) (three four : List ℕ) → ◌≡◌ {A = Reply} (replies.Listed (one, three)) (replies.Listed (two, four)) → three ≡ four
    labelling one two three four e = ap labels_in e

    -- the names and the labels are those of the contents, and no leaf of these is in doubt
    settled_after : (contents mid : Contents) → Does old.era contents first mid
        → (mid ≡ settled contents) × (names ≡ keys mid.records) × (labels ≡ keys mid.leaves)
    settled_after contents mid does =
        let l : Leads old.era 0 Names (replies.Listed (names, labels)) (settled contents) mid =
        subst (λ x. Leads old.era 0 Names x (settled contents) mid) is does in (
          l.1,
          listing names (keys (settled contents).records) labels (keys (settled contents).leaves) l.0
              ∙ ap (λ (c : Contents). keys c.records) (sym l.1),
          labelling names (keys (settled contents).records) labels (keys (settled contents).leaves) l.0
              ∙ ap (λ (c : Contents). keys c.leaves) (sym l.1),
        )

    -- what is known of the contents once all is read
    pub record IsFound (c : Contents) : Type 0 where
      pub clear : c.doubt ≡ None
      pub names_are : names ≡ keys c.records
      pub labels_are : labels ≡ keys c.leaves
      pub told : TellsListed account listed (is_some old.lost) r c
      pub lists : ListsFiles account listed c

    pub found_after : (contents new : Contents) → Fold (Does old.era) contents (first ∷ q.steps) new → IsFound new
    found_after contents new f =
        let mid = settled_after contents f.0 f.1 in
        let clear : f.0.doubt ≡ None = ap (λ (c : Contents). c.doubt) mid.0 in
        let stays = reads_stay old.era f.0 new q.steps clear q.reads f.2 in
        let here : Fold (Does old.era) f.0 q.steps f.0 = subst (λ x. Fold (Does old.era) f.0 q.steps x) stays f.2 in
        let tells = q.tells f.0 clear (subst (λ era. Fold (Does era) f.0 q.steps f.0) (sym era_same) here) in
        subst IsFound (sym stays) (record {
          clear = clear;
          names_are = mid.1;
          labels_are = mid.2;
          told = subst (λ x. TellsListed account listed (is_some x) r f.0) lost_same tells;
          lists = lists_files account names labels listed f.0 plain are mid.1;
        })

    after : (contents new : Contents) → Fold (Does old.era) contents (first ∷ q.steps) new
        → (new.doubt ≡ None) × TellsListed account listed (is_some old.lost) r new × ListsFiles account listed new
    after contents new f = let found = found_after contents new f in (found.clear, found.told, found.lists)

    sound_after : (x : Result Stored StoreFault) → ((contents new : Contents) → Fold (Does old.era) contents (first ∷ q.steps) new
        → (new.doubt ≡ None) × TellsListed account listed (is_some old.lost) x new × ListsFiles account listed new)
        → IfOk x (λ stored. (contents new : Contents) → Fold (Does old.era) contents (first ∷ q.steps) new
        → IsSoundHome (is_some old.lost) new account stored × (new.doubt ≡ None))
    sound_after (Ok stored) h = λ contents new f. let a = h contents new f in (a.1 a.2, a.0)
    sound_after (Err fault) h = tt

    pub went : IsOk r → HasFailed (first ∷ q.steps) → ⊥
    went o h = ⊎_elim (λ e. listed_went names labels (sym is ∙ e)) (q.well o) h
      where
        listed_went : (one : List Bytes) (three : List ℕ) → ◌≡◌ {A = Reply} (replies.Listed (one, three)) replies.Failed → ⊥
        listed_went one three e = cc

    damaged_after : (name : Bytes) → IsErrOf r (Damaged name) → (contents new : Contents) → Fold (Does old.era) contents (first ∷ q.steps) new
        → IsDamaged (is_some old.lost) new account name
    damaged_after name e contents new f =
        let a = after contents new f in
        (subst (λ x. TellsListed account listed (is_some old.lost) x new) e a.1) a.2

    -- the home was loaded, or a fault was told
    pub loads_listed : old.spare ≤ ready.spare → Loads old new account r
    loads_listed more = record {
      steps = first ∷ q.steps;
      runs = over_then old asked new (first ∷ []) q.steps begun q.runs;
      reads = (tt, q.reads);
      few = let few = q.few in omega (arith, few);
      spare = let used = q.used in omega (arith, more, made.spare, used);
      well = went;
      fails = λ e. inr (q.fails e);
      made = λ o e. let n = ap length e in omega (arith, n);
      lost = subst (λ x. IfOk r (λ stored. stored.lost ≡ lost_tree x)) lost_same roots;
      loaded = sound_after r after;
      damaged = damaged_after;
      safe = λ name e contents new durable keys f h.
          held_undamaged (is_some old.lost) new account durable keys (after contents new f).0
          (throughout_end (Does old.era) (λ c. HoldsUnder (is_some old.lost) c account durable keys) contents new (first ∷ q.steps)
          (reads_hold old.era (is_some old.lost) account durable keys contents (first ∷ q.steps) (tt, q.reads) h) f)
          name (damaged_after name e contents new f);
    }
