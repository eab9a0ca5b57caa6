-- What images show once a write of opening is done.
use Rattle.std.proofs.Common.{◌≡◌, ℕ, ◌<◌, ◌^◌, inl, inr, false, cond, eqb, Option, None, Some}
use Rattle.std.proofs.Common.{List, length, refl, sym, ◌∙◌, ap, subst, arith}
use Rattle.std.specs.Prelude.{IsSome}
use Rattle.std.specs.FinMap.{get}
use Rattle.std.proofs.lemmas.Bool.{cases_eq, eq-eqb, ne_eqb}
use Rattle.board_model.specs.Disk.{Image}
use Rattle.staged_file.specs.Staged.{Replaced}
use Rattle.leaf_writes.specs.Writes.{StoredAlone}
use Rattle.record_names.specs.Names.{leaf_name}
use Rattle.share_api.specs.Contents.{Bytes}
use Rattle.platform_core.specs.Records.{account_at}
use Rattle.platform_core.proofs.RecordLemmas.{plain_of}
use Rattle.pw_path.proofs.TreeLemmas.{set_value_other, set_value_same}
use Rattle.pw_leaf.specs.Contents.{Contents, IsContents}
use Rattle.pw_leaf.specs.LeafBytes.{leaf_bytes}
use Rattle.pw_chip.specs.State.{booted}
use Rattle.pw_chip.specs.Calls.{CallData, Remove}
use Rattle.pw_chip.specs.Ledger.{with_leaf}
use Rattle.pw_chip.specs.WordsBytes.{IsWords, words_at, words_bytes}
use Rattle.pw_chip.proofs.EraLemmas.{era_step}
use Rattle.pw_chip.proofs.WordsLemmas.{words_at-words_bytes}
use Rattle.pw_chip.proofs.ReachedLemmas.{call_kept}
use Rattle.label_tree.specs.Values.{with_value}
use Rattle.pw_path.specs.Tree.{aux_of}
use Rattle.pin_ops.specs.declared.answer.Resync.{Resync}
use Rattle.pin_ops.specs.declared.answer.Resync.TheVariants.{Put}
use Rattle.pin_recovery.specs.Devices.{record_at, tree_of}
use Rattle.pin_recovery.specs.Recovery.{resync_of, undone, words_by, leaves_by, booted_devices, recovered}
use Rattle.pin_recovery.proofs.LeafLemmas.{leaves_with, held_written}
use Rattle.platform_model.specs.Views.{Platform}
use Rattle.platform_images.specs.Shown.{AreAccounts, leaf_record, Shows, IsStorable}
use Rattle.platform_images.specs.Openings.{with_devices, owned_name, CarriesOut, OpensPartly, ShowsOpening}
use Rattle.platform_images.proofs.NameLemmas.{plain_leaf, one_leaf, not_leaf}
use Rattle.platform_images.proofs.ShownLemmas.{stays, shown_kept, shown_words}
use Rattle.platform_images.proofs.AnswerLemmas.{by_answer}

-- ---- the counted boot

-- the words after a boot can be stored
boot_kept : (accounts : List Bytes) (s : Platform) (moment : ℕ) → IsStorable accounts s → moment < 2 ^ 40
    → IsWords (booted s.devices.words moment)
boot_kept accounts s moment fits small =
    let is = fits.words in
    let some = is.booted in
    record {
      mac_key = is.mac_key;
      cipher_key = is.cipher_key;
      booted = omega arith;
      boot = omega arith;
      start = small;
      newest = is.newest;
      older = is.older;
    }

-- so the platform stays storable
pub boot_storable : (accounts : List Bytes) (s : Platform) (moment : ℕ) → IsStorable accounts s → moment < 2 ^ 40
    → IsStorable accounts (with_devices s (booted_devices s.devices moment))
boot_storable accounts s moment fits small =
    record { words = boot_kept accounts s moment fits small; leaves = fits.leaves; owners = fits.owners }

-- and is shown with it, once its words are stored
pub boot_shown : (accounts : List Bytes) (d i : Image) (s : Platform) (moment : ℕ) → AreAccounts accounts
    → IsStorable accounts s → Shows accounts d s → moment < 2 ^ 40
    → StoredAlone (words_bytes (booted s.devices.words moment)) d i
    → Shows accounts i (with_devices s (booted_devices s.devices moment))
boot_shown accounts d i s moment are fits h small k =
    shown_words accounts are d i s h (words_bytes (booted s.devices.words moment))
    (with_devices s (booted_devices s.devices moment)) k
    (words_at-words_bytes (booted s.devices.words moment) (boot_kept accounts s moment fits small)) (λ a l. refl) refl

-- ---- one record at a label

-- the platform with one leaf changed
abbrev with_one : Platform → ℕ → Option Contents → Platform
with_one s label o = with_devices s (record { words = s.devices.words; leaves = with_leaf s.devices.leaves label o })

module _ (accounts : List Bytes) (are : AreAccounts accounts) (d i : Image) (s : Platform) (h : Shows accounts d s)
    (label : ℕ) (o : Option Contents) (known : s.owners label < length accounts) (small : label < 16384)
    (r : Replaced (owned_name accounts s label) (record_at s.devices.words.keys o) d i) where
  -- each account's record at the label
  at_label : (a : ℕ) → a < length accounts
      → get i.files (leaf_name (account_at accounts a) label) ≡ leaf_record (with_one s label o) a label
  at_label a within =
      let keys = s.devices.words.keys in
      let leaf : with_leaf s.devices.leaves label o label ≡ o = set_value_same s.devices.leaves label o in
      elim (cases_eq a (s.owners label)) [
        | inl same ↦
            ap (λ b. get i.files (leaf_name (account_at accounts b) label)) same ∙ r.here
            ∙ ap (record_at keys) (sym leaf)
            ∙ sym (ap (λ b. cond b (record_at keys (with_leaf s.devices.leaves label o label)) None)
            (eq-eqb (s.owners label) a (sym same)))
        | inr ne ↦
            let foreign : eqb (s.owners label) a ≡ false = ne_eqb (s.owners label) a (λ e. ne (sym e)) in
            r.others (leaf_name (account_at accounts a) label) (plain_leaf accounts are a label within small)
            (λ e. let p = one_leaf accounts are a (s.owners label) label label within known small small e in ne p.0)
            ∙ h.leaves a label within small
            ∙ ap (λ b. cond b (record_at keys (s.devices.leaves label)) None) foreign
            ∙ sym (ap (λ b. cond b (record_at keys (with_leaf s.devices.leaves label o label)) None) foreign)
      ]

  -- an image with that record changed shows the platform with that leaf changed
  shown_leaf : Shows accounts i (with_one s label o)
  shown_leaf = record {
    words = ap words_at r.words ∙ h.words;
    leaves = λ a l within few. elim (cases_eq l label) [
      | inl same ↦
          ap (λ m. get i.files (leaf_name (account_at accounts a) m)) same ∙ at_label a within
          ∙ sym (ap (λ m. leaf_record (with_one s label o) a m) same)
      | inr ne ↦
          r.others (leaf_name (account_at accounts a) l) (plain_leaf accounts are a l within few)
          (λ e. let p = one_leaf accounts are a (s.owners label) l label within known few small e in ne p.1)
          ∙ h.leaves a l within few
          ∙ ap (λ (x : Option Contents). cond (eqb (s.owners l) a) (record_at s.devices.words.keys x) None)
          (sym (set_value_other s.devices.leaves label o l ne))
    ];
    records = λ a q is. stays d i q (get (s.records a) q) (h.records a q is)
        (r.others q (plain_of (account_at accounts a) q is)
        (not_leaf accounts are a (s.owners label) label q is known small));
    only = h.only;
  }

-- a platform with one leaf changed is storable
storable_leaf : (accounts : List Bytes) (s : Platform) (label : ℕ) (o : Option Contents) → IsStorable accounts s
    → s.owners label < length accounts → ((x : Contents) → o ≡ Some x → IsContents x × (x.label ≡ label))
    → IsStorable accounts (with_one s label o)
storable_leaf accounts s label o fits known good = record {
  words = fits.words;
  leaves = leaves_with s.devices.leaves label o fits.leaves good;
  owners = λ l some. elim (cases_eq l label) [
    | inl same ↦ subst (λ (n : ℕ). n < length accounts) (sym (ap s.owners same)) known
    | inr ne ↦
        fits.owners l (subst (λ (x : Option Contents). IsSome x) (set_value_other s.devices.leaves label o l ne) some)
  ];
}

-- ---- an insert that is undone

module _ (s : Platform) (label now : ℕ) where
  -- the call that undoes it
  abbrev removal : CallData
  removal =
      let mac = s.devices.words.log.newest.mac in
      Remove label (aux_of (with_value (tree_of s.devices) label mac) label) mac

  -- the platform with its words
  abbrev with_undone : Platform
  with_undone = with_devices s (record {
    words = undone s.devices.words (tree_of s.devices) label now;
    leaves = s.devices.leaves;
  })

  -- its words can be stored
  undone_kept : IsWords s.devices.words → now < 2 ^ 40
      → IsWords (undone s.devices.words (tree_of s.devices) label now)
  undone_kept is small = call_kept s.devices.words is now small removal

  -- and each leaf's record is what it was
  undone_record : (a l : ℕ) → leaf_record s a l ≡ leaf_record with_undone a l
  undone_record a l =
      let e = era_step s.devices.words removal now in
      ap (λ keys. cond (eqb (s.owners l) a) (record_at keys (s.devices.leaves l)) None) (sym e.keys)

-- ---- the answer that is carried out

-- the platform once the answer is carried out
abbrev carried : Platform → ℕ → Resync → Platform
carried s now answer = with_devices s (record {
  words = words_by s.devices.words (tree_of s.devices) answer now;
  leaves = leaves_by s.devices.words.keys answer s.devices.leaves;
})

module _ (accounts : List Bytes) (s : Platform) (now : ℕ) (fits : IsStorable accounts s) (early : now < 2 ^ 40) where
  abbrev newest_label : ℕ
  newest_label = s.devices.words.log.newest.label

  -- the leaf that a put record holds
  held : (x : Contents) → IsContents x
      → with_one s newest_label (Some x) ≡ carried s now (Put newest_label (leaf_bytes s.devices.words.keys x))
  held x is =
      let e = held_written s.devices.words.keys x is in
      λ i. with_one s newest_label (sym e i)

  -- the platform stays storable
  pub recovery_storable : IsStorable accounts (with_devices s (recovered s.devices now))
  recovery_storable =
      by_answer s.devices fits.words fits.leaves (λ answer. IsStorable accounts (carried s now answer))
      (record { words = fits.words; leaves = fits.leaves; owners = fits.owners })
      (λ host chip. record { words = fits.words; leaves = fits.leaves; owners = fits.owners })
      (record { words = undone_kept s newest_label now fits.words early; leaves = fits.leaves; owners = fits.owners })
      (record {
        words = fits.words;
        leaves = record { each = λ label x e. cc e; labels = λ label x e. cc e };
        owners = λ label some. cc some;
      })
      (λ some. storable_leaf accounts s newest_label None fits (fits.owners newest_label some) (λ x e. cc e))
      (λ x some is own. subst (IsStorable accounts) (held x is)
      (storable_leaf accounts s newest_label (Some x) fits (fits.owners newest_label some)
      (λ y e.
      let same : x ≡ y = cc e in
      subst (λ (c : Contents). IsContents c × (c.label ≡ newest_label)) same (is, own))))

  module _ (are : AreAccounts accounts) (d i : Image) (h : Shows accounts d s) where
    -- with the words of an undone insert
    undone_shown : StoredAlone (words_bytes (undone s.devices.words (tree_of s.devices) newest_label now)) d i
        → Shows accounts i (with_undone s newest_label now)
    undone_shown k =
        shown_words accounts are d i s h (words_bytes (undone s.devices.words (tree_of s.devices) newest_label now))
        (with_undone s newest_label now) k
        (words_at-words_bytes (undone s.devices.words (tree_of s.devices) newest_label now)
        (undone_kept s newest_label now fits.words early))
        (undone_record s newest_label now) refl

    -- with its one write the answer is carried out
    pub recovery_shown : CarriesOut accounts s now (resync_of s.devices) d i
        → Shows accounts i (with_devices s (recovered s.devices now))
    recovery_shown =
        let small : newest_label < 16384 = fits.words.newest.ranges.label in
        by_answer s.devices fits.words fits.leaves
        (λ answer. CarriesOut accounts s now answer d i → Shows accounts i (carried s now answer))
        (λ k. shown_kept accounts are d i s h k)
        (λ host chip k. shown_kept accounts are d i s h k)
        undone_shown
        (λ k. absurd k)
        (λ some r. shown_leaf accounts are d i s h newest_label None (fits.owners newest_label some) small r)
        (λ x some is own r. subst (Shows accounts i) (held x is)
        (shown_leaf accounts are d i s h newest_label (Some x) (fits.owners newest_label some) small r))

-- whatever the writes of opening leave
pub opening_shown : (accounts : List Bytes) (d i : Image) (s : Platform) (moment : ℕ) → AreAccounts accounts
    → IsStorable accounts s → Shows accounts d s → moment < 2 ^ 40 → OpensPartly accounts s moment d i
    → ShowsOpening accounts i s moment
opening_shown accounts d i s moment are fits h early (inl k) =
    record { left = s.devices; is = inl refl; shown = shown_kept accounts are d i s h k; storable = fits }
opening_shown accounts d i s moment are fits h early (inr (inl k)) = record {
  left = booted_devices s.devices moment;
  is = inr (inl refl);
  shown = boot_shown accounts d i s moment are fits h early k;
  storable = boot_storable accounts s moment fits early;
}
opening_shown accounts d i s moment are fits h early (inr (inr k)) =
    let b = with_devices s (booted_devices s.devices moment) in
    let holds = boot_storable accounts s moment fits early in
    record {
      left = recovered (booted_devices s.devices moment) moment;
      is = inr (inr refl);
      shown = recovery_shown accounts b moment holds early are k.0 i
          (boot_shown accounts d k.0 s moment are fits h early k.1) k.2;
      storable = recovery_storable accounts b moment holds early;
    }
