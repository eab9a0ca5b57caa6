-- The names of leaves' records and of other records.
use Rattle.std.proofs.Common.{◌≡◌, ◌≢◌, ⊎_elim, ℕ, ◌<◌, List, length, IsTrue, refl, sym, ◌∙◌, ap}
use Rattle.std.proofs.lemmas.Bool.{cases_order}
use Rattle.board_model.specs.Files.{IsTemporary}
use Rattle.record_names.specs.Names.{Parts, Stash, Factor, Leaf, File, IsRecordName, is_account_name}
use Rattle.record_names.specs.Names.{account_of, owner_of, leaf_name}
use Rattle.record_names.proofs.NameLemmas.{names_tell, account_of-name}
use Rattle.cabinet.proofs.PlainNames.{plain_name}
use Rattle.share_api.specs.Contents.{Bytes}
use Rattle.platform_core.specs.Records.{IsRecordOf, account_at}
use Rattle.platform_core.proofs.RecordLemmas.{distinct_at}
use Rattle.platform_images.specs.Shown.{AreAccounts}

-- the name of a leaf's record is a record's
leaf_named : (account : Bytes) (label : ℕ) → IsTrue (is_account_name account) → label < 16384
    → IsRecordName (leaf_name account label)
leaf_named account label is lt = record { parts = Leaf account label; are = (is, lt); spelled = refl }

-- the label that a name says, where it is a leaf's
abbrev label_in : Parts → ℕ
label_in (Stash account) = 0
label_in (Factor account label edition) = 0
label_in (Leaf account label) = label
label_in (File account name) = 0

-- leaves' records with one name are of one account, and at one label
leaf_tells : (a b : Bytes) (l m : ℕ) → IsTrue (is_account_name a) → IsTrue (is_account_name b) → l < 16384
    → m < 16384 → leaf_name a l ≡ leaf_name b m → (a ≡ b) × (l ≡ m)
leaf_tells a b l m is other small few e =
    let same : Leaf a l ≡ Leaf b m = names_tell (Leaf a l) (Leaf b m) (is, small) (other, few) e in
    (ap owner_of same, ap label_in same)

module _ (accounts : List Bytes) (are : AreAccounts accounts) where
  -- accounts with one name have one number
  one_number : (j k : ℕ) → j < length accounts → k < length accounts → account_at accounts j ≡ account_at accounts k
      → j ≡ k
  one_number j k first second same =
      ⊎_elim (λ e. e)
      (λ apart. ⊎_elim (λ below. absurd (distinct_at accounts are.once j k below second same))
      (λ above. absurd (distinct_at accounts are.once k j above first (sym same))) apart)
      (cases_order j k)

  -- a leaf's record isn't temporary
  pub plain_leaf : (number label : ℕ) → number < length accounts → label < 16384
      → ¬ IsTemporary (leaf_name (account_at accounts number) label)
  plain_leaf number label known small =
      plain_name (leaf_name (account_at accounts number) label)
      (leaf_named (account_at accounts number) label (are.named number known) small)

  -- leaves' records with one name are of one account's number, and at one label
  pub one_leaf : (a b l m : ℕ) → a < length accounts → b < length accounts → l < 16384 → m < 16384
      → leaf_name (account_at accounts a) l ≡ leaf_name (account_at accounts b) m → (a ≡ b) × (l ≡ m)
  one_leaf a b l m known other small few e =
      let same = leaf_tells (account_at accounts a) (account_at accounts b) l m (are.named a known) (are.named b other)
      small few e in
      (one_number a b known other same.0, same.1)

  -- a record of the other kind has no leaf's name
  pub not_leaf : (a b l : ℕ) (q : Bytes) → IsRecordOf (account_at accounts a) q → b < length accounts → l < 16384
      → q ≢ leaf_name (account_at accounts b) l
  not_leaf a b l q is known small e =
      let other : Bytes = account_at accounts b in
      let same : account_at accounts a ≡ other =
      sym is.own ∙ ap account_of e ∙ account_of-name (Leaf other l) (are.named b known, small) in
      is.filed l small (e ∙ ap (λ (account : Bytes). leaf_name account l) (sym same))
