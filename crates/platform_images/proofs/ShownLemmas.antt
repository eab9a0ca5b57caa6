-- What images show once writes are done.
use Rattle.std.proofs.Common.{◌≡◌, ◌≢◌, ⊎_elim, ℕ, ◌<◌, ◌≤◌, inl, inr, true, false, cond, eqb}
use Rattle.std.proofs.Common.{Option, None, Some, Ok, List, length, take, refl, sym, ◌∙◌, ap, subst, arith}
use Rattle.std.specs.Prelude.{option_map, IsSome}
use Rattle.std.specs.FinMap.{get}
use Rattle.std.proofs.lemmas.Bool.{cases_eq, eq-eqb, ne_eqb}
use Rattle.std.proofs.lemmas.List.{take_all}
use Rattle.board_model.specs.Files.{with_content}
use Rattle.board_model.specs.Disk.{Image}
use Rattle.staged_file.specs.Staged.{Kept, Replaced, KeptOr}
use Rattle.leaf_writes.specs.Writes.{StoredAlone, StoredWith, NoneOneOrBoth}
use Rattle.record_names.specs.Names.{leaf_name}
use Rattle.cabinet.proofs.EditLemmas.{which}
use Rattle.share_api.specs.Contents.{Bytes}
use Rattle.platform_core.specs.Records.{IsRecordOf, account_at}
use Rattle.platform_core.proofs.RecordLemmas.{plain_of, one_owner, here, elsewhere}
use Rattle.pw_path.proofs.TreeLemmas.{set_value_other}
use Rattle.pw_chip.specs.WordsBytes.{words_at}
use Rattle.pin_recovery.specs.LeafCalls.{LeafOp, label_of}
use Rattle.platform_model.specs.Views.{Platform, Records}
use Rattle.platform_model.specs.Steps.{Puts, Removes, Asks, owners_after, with_records, done_by}
use Rattle.platform_model.specs.Crashes.{halfway, IsImageOf}
use Rattle.platform_model.proofs.ViewLemmas.{records_own}
use Rattle.platform_images.specs.Shown.{AreAccounts, leaf_record, Shows, ShowsImageOf, AwaitsCall}
use Rattle.platform_images.specs.Shown.{words_after, record_after}
use Rattle.platform_images.proofs.NameLemmas.{plain_leaf, one_leaf, not_leaf}
use Rattle.platform_images.proofs.CallLemmas.{changes_one, label_small, owner_is, words_shown, alone}
use Rattle.platform_images.proofs.CallLemmas.{half_record, after_record}

-- what a file that stays shows
pub stays : (d i : Image) (q : Bytes) (o : Option Bytes) → o ≡ option_map (take 49182) (get d.files q)
    → get i.files q ≡ get d.files q → o ≡ option_map (take 49182) (get i.files q)
stays d i q o shown same = shown ∙ ap (option_map (take 49182)) (sym same)

module _ (accounts : List Bytes) (are : AreAccounts accounts) (d i : Image) (s : Platform)
    (h : Shows accounts d s) where
  -- images that are alike show the same platforms
  pub shown_kept : Kept d i → Shows accounts i s
  shown_kept k = record {
    words = ap words_at k.words ∙ h.words;
    leaves = λ a l known small. k.others (leaf_name (account_at accounts a) l) (plain_leaf accounts are a l known small)
        ∙ h.leaves a l known small;
    records = λ a q is. stays d i q (get (s.records a) q) (h.records a q is)
        (k.others q (plain_of (account_at accounts a) q is));
    only = h.only;
  }

  -- an image with other words alone shows the platform with these, where each leaf's record is the same
  pub shown_words : (words : Bytes) (q : Platform) → StoredAlone words d i
      → words_at words ≡ Ok (Some q.devices.words)
      → ((a l : ℕ) → leaf_record s a l ≡ leaf_record q a l) → s.records ≡ q.records → Shows accounts i q
  shown_words words q k shown same records = record {
    words = ap words_at k.stored ∙ shown;
    leaves = λ a l known small. k.others (leaf_name (account_at accounts a) l) (plain_leaf accounts are a l known small)
        ∙ h.leaves a l known small ∙ same a l;
    records = λ a name is. ap (λ (r : ℕ → Records). get (r a) name) (sym records)
        ∙ stays d i name (get (s.records a) name) (h.records a name is)
        (k.others name (plain_of (account_at accounts a) name is));
    only = λ a name some. h.only a name (subst (λ (r : ℕ → Records). IsSome (get (r a) name)) (sym records) some);
  }

-- ---- the two writes of a call

module _ (accounts : List Bytes) (d i : Image) (s : Platform) (number : ℕ) (op : LeafOp) (now : ℕ)
    (h : AwaitsCall accounts d s number op now) where
  -- with the words alone
  pub shown_half : StoredAlone (words_after s op now) d i → Shows accounts i (halfway s number op now)
  shown_half k =
      shown_words accounts h.names d i s h.shown (words_after s op now) (halfway s number op now) k
      (words_shown s op now h.words h.allowed.0) (λ a l. half_record s number op now a l h.allowed.2) refl

  -- the platform after the call
  abbrev new : Platform
  new = done_by s number (Asks op) now

  -- the record at the call's label, of each account
  at_label : StoredWith (words_after s op now) (leaf_name (account_at accounts number) (label_of op))
      (record_after s op now) d i → (a : ℕ) → a < length accounts
      → get i.files (leaf_name (account_at accounts a) (label_of op)) ≡ leaf_record new a (label_of op)
  at_label k a known =
      let label = label_of op in
      let small = label_small op h.allowed.1 in
      let owner = owner_is s number op h.allowed.2 in
      let owned = owners_after op number s.owners label in
      elim (cases_eq a number) [
        | inl same ↦
            let mine : eqb owned a ≡ true = eq-eqb owned a (owner ∙ sym same) in
            ap (λ b. get i.files (leaf_name (account_at accounts b) label)) same ∙ k.here
            ∙ sym (ap (λ b. cond b (record_after s op now) None) mine)
        | inr ne ↦
            let foreign : eqb owned a ≡ false = ne_eqb owned a (λ e. ne (sym e ∙ owner)) in
            k.others (leaf_name (account_at accounts a) label) (plain_leaf accounts h.names a label known small)
            (λ e. let p = one_leaf accounts h.names a number label label known h.known small small e in ne p.0)
            ∙ h.shown.leaves a label known small ∙ alone s number op a h.allowed.2 ne
            ∙ sym (ap (λ b. cond b (record_after s op now) None) foreign)
      ]

  -- with both
  pub shown_after : StoredWith (words_after s op now) (leaf_name (account_at accounts number) (label_of op))
      (record_after s op now) d i → Shows accounts i new
  shown_after k =
      let small = label_small op h.allowed.1 in
      let one = changes_one s number op now h.in_step h.allowed.1 h.allowed.2 in
      record {
        words = ap words_at k.stored ∙ words_shown s op now h.words h.allowed.0;
        leaves = λ a l known few. elim (cases_eq l (label_of op)) [
          | inl same ↦
              ap (λ m. get i.files (leaf_name (account_at accounts a) m)) same ∙ at_label k a known
              ∙ sym (ap (λ m. leaf_record new a m) same)
          | inr ne ↦
              k.others (leaf_name (account_at accounts a) l) (plain_leaf accounts h.names a l known few)
              (λ e. let p = one_leaf accounts h.names a number l (label_of op) known h.known few small e in ne p.1)
              ∙ h.shown.leaves a l known few ∙ after_record s number op now a l one ne
        ];
        records = λ a q is. stays d i q (get (s.records a) q) (h.shown.records a q is)
            (k.others q (plain_of (account_at accounts a) q is)
            (not_leaf accounts h.names a number (label_of op) q is h.known small));
        only = h.shown.only;
      }

  -- whatever the two writes leave
  pub call_shown : NoneOneOrBoth (words_after s op now) (leaf_name (account_at accounts number) (label_of op))
      (record_after s op now) d i → ShowsImageOf accounts i s number (Asks op) now
  unfolding IsImageOf
  call_shown (inl k) = (s, (inl refl, shown_kept accounts h.names d i s h.shown k))
  call_shown (inr (inl k)) = (halfway s number op now, (inr (inl refl), shown_half k))
  call_shown (inr (inr k)) = (new, (inr (inr refl), shown_after k))

-- ---- another record

module _ (accounts : List Bytes) (are : AreAccounts accounts) (d i : Image) (s : Platform) (h : Shows accounts d s)
    (number : ℕ) (name : Bytes) (content : Option Bytes) (mine : IsRecordOf (account_at accounts number) name)
    (short : option_map (take 49182) content ≡ content) (r : Replaced name content d i) where
  -- the account's records with the changed one
  abbrev changed : Records
  changed = with_content (s.records number) name content

  -- a record of another name is as it was
  unlike : (a : ℕ) (q : Bytes) → IsRecordOf (account_at accounts a) q → q ≢ name
      → get (s.records a) q ≡ option_map (take 49182) (get i.files q)
  unlike a q is apart =
      stays d i q (get (s.records a) q) (h.records a q is)
      (r.others q (plain_of (account_at accounts a) q is) apart)

  -- the account's records
  own_records : (q : Bytes) → IsRecordOf (account_at accounts number) q
      → get changed q ≡ option_map (take 49182) (get i.files q)
  own_records q is =
      ⊎_elim (λ same. ap (get changed) same ∙ here (s.records number) name content ∙ sym short
      ∙ ap (option_map (take 49182)) (sym (ap (get i.files) same ∙ r.here)))
      (λ apart. elsewhere (s.records number) name content q apart ∙ unlike number q is apart)
      (which q name)

  -- which are the account's alone
  own_only : (q : Bytes) → IsSome (get changed q) → IsRecordOf (account_at accounts number) q
  own_only q some =
      ⊎_elim (λ same. subst (IsRecordOf (account_at accounts number)) (sym same) mine)
      (λ apart. h.only number q
      (subst (λ (o : Option Bytes). IsSome o) (elsewhere (s.records number) name content q apart) some))
      (which q name)

  -- each account's records, once one record is changed
  all_records : (a : ℕ) (q : Bytes) → IsRecordOf (account_at accounts a) q
      → get (with_records s.records number changed a) q ≡ option_map (take 49182) (get i.files q)
  all_records a q is =
      elim (cases_eq a number) [
        | inl same ↦
            ap (λ (b : ℕ). get (with_records s.records number changed b) q) same
            ∙ ap (λ (m : Records). get m q) (records_own s.records number changed)
            ∙ own_records q (subst (λ (b : ℕ). IsRecordOf (account_at accounts b) q) same is)
        | inr ne ↦
            ap (λ (m : Records). get m q) (set_value_other s.records number changed a ne)
            ∙ unlike a q is (λ e. ne (one_owner accounts are.once a number name
            (subst (IsRecordOf (account_at accounts a)) e is) mine))
      ]

  -- which are that account's alone
  all_only : (a : ℕ) (q : Bytes) → IsSome (get (with_records s.records number changed a) q)
      → IsRecordOf (account_at accounts a) q
  all_only a q some =
      elim (cases_eq a number) [
        | inl same ↦
            subst (λ (b : ℕ). IsRecordOf (account_at accounts b) q) (sym same)
            (own_only q (subst (λ (m : Records). IsSome (get m q))
            (ap (with_records s.records number changed) same ∙ records_own s.records number changed) some))
        | inr ne ↦
            h.only a q (subst (λ (m : Records). IsSome (get m q)) (set_value_other s.records number changed a ne) some)
      ]

  -- an image in which one record is changed shows the platform with the change
  shown_change : Shows accounts i (record s { records = with_records s.records number changed })
  shown_change = record {
    words = ap words_at r.words ∙ h.words;
    leaves = λ a l known small. r.others (leaf_name (account_at accounts a) l)
        (plain_leaf accounts are a l known small)
        (λ e. not_leaf accounts are number a l name mine known small (sym e))
        ∙ h.leaves a l known small;
    records = all_records;
    only = all_only;
  }

-- bytes that are few enough are whole
whole : (bytes : Bytes) → length bytes ≤ 49182 → option_map (take 49182) (Some bytes) ≡ Some bytes
whole bytes few = ap (λ (l : Bytes). Some l) (take_all 49182 bytes (omega (arith, few)))

module _ (accounts : List Bytes) (d i : Image) (s : Platform) (number : ℕ) (name : Bytes) where
  -- after a put
  pub put_done : (bytes : Bytes) (now : ℕ) → AreAccounts accounts → Shows accounts d s
      → IsRecordOf (account_at accounts number) name → length bytes ≤ 49182 → Replaced name (Some bytes) d i
      → Shows accounts i (done_by s number (Puts name bytes) now)
  put_done bytes now are h mine few r =
      shown_change accounts are d i s h number name (Some bytes) mine (whole bytes few) r

  -- whatever a put leaves
  pub put_shown : (bytes : Bytes) (now : ℕ) → AreAccounts accounts → Shows accounts d s
      → IsRecordOf (account_at accounts number) name → length bytes ≤ 49182 → KeptOr (Replaced name (Some bytes)) d i
      → ShowsImageOf accounts i s number (Puts name bytes) now
  unfolding IsImageOf
  put_shown bytes now are h mine few (inl k) = (s, (inl refl, shown_kept accounts are d i s h k))
  put_shown bytes now are h mine few (inr r) =
      (done_by s number (Puts name bytes) now, (inr refl, put_done bytes now are h mine few r))

  -- after a removal
  pub removal_done : (now : ℕ) → AreAccounts accounts → Shows accounts d s
      → IsRecordOf (account_at accounts number) name → Replaced name None d i
      → Shows accounts i (done_by s number (Removes name) now)
  removal_done now are h mine r = shown_change accounts are d i s h number name None mine refl r

  -- whatever a removal leaves
  pub removal_shown : (now : ℕ) → AreAccounts accounts → Shows accounts d s
      → IsRecordOf (account_at accounts number) name → KeptOr (Replaced name None) d i
      → ShowsImageOf accounts i s number (Removes name) now
  unfolding IsImageOf
  removal_shown now are h mine (inl k) = (s, (inl refl, shown_kept accounts are d i s h k))
  removal_shown now are h mine (inr r) =
      (done_by s number (Removes name) now, (inr refl, removal_done now are h mine r))
