-- What a leaf call makes of words, leaves and owners.
use Rattle.std.proofs.Common.{◌≡◌, ◌≢◌, ℕ, ◌<◌, ◌^◌, inl, inr, Bool, true, false, cond, eqb, Option, Some, None, Ok}
use Rattle.std.proofs.Common.{refl, sym, ◌∙◌, ap}
use Rattle.std.proofs.lemmas.Bool.{cases_eq, ne_eqb}
use Rattle.pw_path.proofs.TreeLemmas.{set_value_other, set_value_same}
use Rattle.pw_leaf.specs.declared.keys.ChipKeys.{ChipKeys}
use Rattle.pw_leaf.specs.Contents.{Contents, new_contents}
use Rattle.pw_chip.specs.WordsBytes.{IsWords, words_at}
use Rattle.pw_chip.specs.Ledger.{with_leaf}
use Rattle.pw_chip.proofs.EraLemmas.{era_step}
use Rattle.pw_chip.proofs.WordsLemmas.{words_at-words_bytes}
use Rattle.pw_chip.proofs.ReachedLemmas.{call_kept}
use Rattle.pin_recovery.specs.Devices.{Leaves, record_at, AreInStep}
use Rattle.pin_recovery.specs.LeafCalls.{LeafOp, InsertLeaf, TryLeaf, ResetLeaf, RemoveLeaf, label_of, call_of, stepped}
use Rattle.pin_recovery.specs.LeafCalls.{IsLeafOp}
use Rattle.platform_model.specs.Views.{Platform}
use Rattle.platform_model.specs.Steps.{Asks, owners_after, done_by, IsAllowedLeaf}
use Rattle.platform_model.specs.Crashes.{halfway}
use Rattle.platform_model.proofs.StepLemmas.{try_leaves, resets, inserts, removes}
use Rattle.platform_images.specs.Shown.{leaf_record, words_after}

-- the leaves after a call are those before it with one changed
pub record IsOneLeaf (s : Platform) (op : LeafOp) (now : ℕ) : Type 0 where
  pub leaf : Option Contents
  pub is : (stepped s.devices op now).leaves ≡ with_leaf s.devices.leaves (label_of op) leaf

-- a leaf call changes one leaf
pub changes_one : (s : Platform) (number : ℕ) (op : LeafOp) (now : ℕ) → AreInStep s.devices → IsLeafOp op
    → IsAllowedLeaf s number op → IsOneLeaf s op now
unfolding IsLeafOp IsAllowedLeaf
changes_one s number (InsertLeaf label les hes reset schedule iv) now h ok free = record {
  leaf = Some (new_contents label les hes reset schedule iv);
  is = inserts s.devices label now h ok.0 les hes reset schedule iv free;
}
changes_one s number (TryLeaf label les) now h ok here =
    record { leaf = _; is = try_leaves s.devices label now h ok les here.1.0 here.1.1 }
changes_one s number (ResetLeaf label reset) now h ok here =
    record { leaf = _; is = resets s.devices label now h ok reset here.1.0 here.1.1 }
changes_one s number (RemoveLeaf label) now h ok here =
    record { leaf = None; is = removes s.devices label now h ok here.1.0 here.1.1.0 here.1.1.1 }

-- a call's label is one of the 16,384
pub label_small : (op : LeafOp) → IsLeafOp op → label_of op < 16384
unfolding IsLeafOp
label_small (InsertLeaf label les hes reset schedule iv) ok = ok.0
label_small (TryLeaf label les) ok = ok
label_small (ResetLeaf label reset) ok = ok
label_small (RemoveLeaf label) ok = ok

-- ---- owners

-- after a call its label is the account's
pub owner_is : (s : Platform) (number : ℕ) (op : LeafOp) → IsAllowedLeaf s number op
    → owners_after op number s.owners (label_of op) ≡ number
unfolding IsAllowedLeaf
owner_is s number (InsertLeaf label les hes reset schedule iv) free = set_value_same s.owners label number
owner_is s number (TryLeaf label les) here = here.0
owner_is s number (ResetLeaf label reset) here = here.0
owner_is s number (RemoveLeaf label) here = here.0

-- each other label is whose it was
pub owner_away : (s : Platform) (number : ℕ) (op : LeafOp) (l : ℕ) → l ≢ label_of op
    → owners_after op number s.owners l ≡ s.owners l
owner_away s number (InsertLeaf label les hes reset schedule iv) l ne = set_value_other s.owners label number l ne
owner_away s number (TryLeaf label les) l ne = refl
owner_away s number (ResetLeaf label reset) l ne = refl
owner_away s number (RemoveLeaf label) l ne = refl

-- ---- words

-- a call keeps the keys
pub keys_stay : (s : Platform) (op : LeafOp) (now : ℕ)
    → (stepped s.devices op now).words.keys ≡ s.devices.words.keys
unfolding stepped
keys_stay s op now =
    let e = era_step s.devices.words (call_of s.devices.words.keys s.devices.leaves op) now in
    e.keys

-- the words after a call can be stored
pub words_kept : (s : Platform) (op : LeafOp) (now : ℕ) → IsWords s.devices.words → now < 2 ^ 40
    → IsWords (stepped s.devices op now).words
unfolding stepped
words_kept s op now is small =
    call_kept s.devices.words is now small (call_of s.devices.words.keys s.devices.leaves op)

-- and are read from where they are stored
pub words_shown : (s : Platform) (op : LeafOp) (now : ℕ) → IsWords s.devices.words → now < 2 ^ 40
    → words_at (words_after s op now) ≡ Ok (Some (stepped s.devices op now).words)
words_shown s op now is small = words_at-words_bytes (stepped s.devices op now).words (words_kept s op now is small)

-- ---- records

-- a label without a leaf has no record
no_record : (keys : ChipKeys) (b : Bool) (o : Option Contents) → o ≡ None → cond b (record_at keys o) None ≡ None
no_record keys true o e = ap (record_at keys) e
no_record keys false o e = refl

-- before the call no other account has a record at its label
pub alone : (s : Platform) (number : ℕ) (op : LeafOp) (a : ℕ) → IsAllowedLeaf s number op → a ≢ number
    → leaf_record s a (label_of op) ≡ None
unfolding IsAllowedLeaf
alone s number (InsertLeaf label les hes reset schedule iv) a free ne =
    no_record s.devices.words.keys (eqb (s.owners label) a) (s.devices.leaves label) free
alone s number (TryLeaf label les) a here ne = rw (ne_eqb (s.owners label) a (λ e. ne (sym e ∙ here.0))) refl
alone s number (ResetLeaf label reset) a here ne = rw (ne_eqb (s.owners label) a (λ e. ne (sym e ∙ here.0))) refl
alone s number (RemoveLeaf label) a here ne = rw (ne_eqb (s.owners label) a (λ e. ne (sym e ∙ here.0))) refl

-- a label that gets an owner has no record yet
unowned : (s : Platform) (number : ℕ) (op : LeafOp) (keys : ChipKeys) (a l : ℕ) → IsAllowedLeaf s number op
    → cond (eqb (s.owners l) a) (record_at keys (s.devices.leaves l)) None
    ≡ cond (eqb (owners_after op number s.owners l) a) (record_at keys (s.devices.leaves l)) None
unfolding IsAllowedLeaf
unowned s number (InsertLeaf label les hes reset schedule iv) keys a l free =
    elim (cases_eq l label) [
      | inl same ↦
          let none : s.devices.leaves l ≡ None = ap s.devices.leaves same ∙ free in
          no_record keys (eqb (s.owners l) a) (s.devices.leaves l) none
          ∙ sym (no_record keys (eqb (cond (eqb l label) number (s.owners l)) a) (s.devices.leaves l) none)
      | inr ne ↦
          ap (λ o. cond (eqb o a) (record_at keys (s.devices.leaves l)) None)
          (sym (set_value_other s.owners label number l ne))
    ]
unowned s number (TryLeaf label les) keys a l here = refl
unowned s number (ResetLeaf label reset) keys a l here = refl
unowned s number (RemoveLeaf label) keys a l here = refl

-- halfway each record is what it was
pub half_record : (s : Platform) (number : ℕ) (op : LeafOp) (now a l : ℕ) → IsAllowedLeaf s number op
    → leaf_record s a l ≡ leaf_record (halfway s number op now) a l
half_record s number op now a l allowed =
    ap (λ keys. cond (eqb (s.owners l) a) (record_at keys (s.devices.leaves l)) None) (sym (keys_stay s op now))
    ∙ unowned s number op (stepped s.devices op now).words.keys a l allowed

-- after the call the other labels' records are what they were
pub after_record : (s : Platform) (number : ℕ) (op : LeafOp) (now a l : ℕ) → IsOneLeaf s op now → l ≢ label_of op
    → leaf_record s a l ≡ leaf_record (done_by s number (Asks op) now) a l
after_record s number op now a l one ne =
    let keys = (stepped s.devices op now).words.keys in
    let leaf : (stepped s.devices op now).leaves l ≡ s.devices.leaves l =
    ap (λ (t : Leaves). t l) one.is ∙ set_value_other s.devices.leaves (label_of op) one.leaf l ne in
    ap (λ k. cond (eqb (s.owners l) a) (record_at k (s.devices.leaves l)) None) (sym (keys_stay s op now))
    ∙ ap (λ o. cond (eqb o a) (record_at keys (s.devices.leaves l)) None) (sym (owner_away s number op l ne))
    ∙ ap (λ o. cond (eqb (owners_after op number s.owners l) a) (record_at keys o) None) (sym leaf)
