-- The accounts' records in images that are alike, and in one that has a change.
use Rattle.std.proofs.Common.{◌≡◌, ◌≢◌, ◌⊎◌, inl, inr, ⊎_elim, ℕ, zero, suc, ◌<◌, List, [], ◌∷◌, length, take, Option}
use Rattle.std.proofs.Common.{None, Some, sym, ap, ◌∙◌, subst, Bool, true, false, cond, eqb, true≢false, get_or}
use Rattle.std.proofs.Common.{arith}
use Rattle.std.specs.Prelude.{option_map, IsSome, bytes_eq}
use Rattle.std.specs.List.{IsDistinct, AllByRecursion}
use Rattle.std.proofs.lemmas.Slice.Eq.{bytes_eq-Decides}
use Rattle.std.specs.FinMap.{get}
use Rattle.std.proofs.lemmas.Bool.{cases_lt, cases_order}
use Rattle.std.proofs.lemmas.Bool.Decides.{eqb_tells}
use Rattle.std.proofs.lemmas.List.{get_or_past}
use Rattle.board_model.specs.Files.{Files, IsTemporary, with_content}
use Rattle.board_model.specs.Disk.{Image}
use Rattle.board_model.proofs.Names.{get-inserted, get-insert_other, get-removed, get-remove_other}
use Rattle.staged_file.specs.Staged.{Kept}
use Rattle.record_names.specs.Names.{is_account_name}
use Rattle.record_names.proofs.NameLemmas.{account_of-record}
use Rattle.cabinet.specs.Edits.{File, After}
use Rattle.cabinet.proofs.EditLemmas.{which}
use Rattle.cabinet.proofs.PlainNames.{plain_name}
use Rattle.share_api.specs.Contents.{Bytes, Contents}
use Rattle.image_path.specs.Showing.{ByAccount}
use Rattle.platform_core.specs.Records.{IsRecordOf, AreContents, account_at, AreDistinct, Shows, OthersKept}

-- a record's file isn't temporary
pub plain_of : (account name : Bytes) → IsRecordOf account name → ¬ IsTemporary name
plain_of account name is = plain_name name is.named

-- no record is that of an account without a name
no_owner : (name : Bytes) → IsRecordOf [] name → ⊥
no_owner name is = true≢false (sym (subst (λ (a : Bytes). is_account_name a ≡ true) is.own
    (account_of-record name is.named)))

in_range : (accounts : List Bytes) (n : ℕ) (name : Bytes) → IsRecordOf (account_at accounts n) name
    → n < length accounts
in_range accounts n name is =
    ⊎_elim (λ lt. lt) (λ past. absurd (no_owner name (subst (λ (a : Bytes). IsRecordOf a name)
    (get_or_past accounts n [] past) is)))
    (cases_lt n (length accounts))

all_at : (P : Bytes → Type 0) (xs : List Bytes) (k : ℕ) → AllByRecursion P xs → k < length xs → P (get_or xs k [])
all_at P [] k are lt = absurd (omega arith)
all_at P (x ∷ xs) zero are lt = are.0
all_at P (x ∷ xs) (suc k) are lt = all_at P xs k are.1 (omega arith)

-- accounts that stand once each differ at each two places
pub distinct_at : (accounts : List Bytes) → AreDistinct accounts → (j k : ℕ) → j < k → k < length accounts
    → account_at accounts j ≢ account_at accounts k
unfolding IsDistinct
distinct_at [] d j k below lt same = absurd (omega arith)
distinct_at (x ∷ xs) d j zero below lt same = absurd (omega arith)
distinct_at (x ∷ xs) d zero (suc k) below lt same =
    true≢false (sym ((bytes_eq-Decides x (get_or xs k [])).1 same) ∙ all_at (λ y. bytes_eq x y ≡ false) xs k d.0
    (omega arith))
distinct_at (x ∷ xs) d (suc j) (suc k) below lt same = distinct_at xs d.1 j k (omega arith) (omega arith) same

-- a record is that of one account
pub one_owner : (accounts : List Bytes) → AreDistinct accounts → (j k : ℕ) (name : Bytes)
    → IsRecordOf (account_at accounts j) name → IsRecordOf (account_at accounts k) name → j ≡ k
one_owner accounts distinct j k name one other =
    let same : account_at accounts j ≡ account_at accounts k = sym one.own ∙ other.own in
    ⊎_elim (λ e. e)
    (λ apart. ⊎_elim (λ below. absurd (distinct_at accounts distinct j k below (in_range accounts k name other) same))
    (λ above. absurd (distinct_at accounts distinct k j above (in_range accounts j name one) (sym same))) apart)
    (cases_order j k)

-- what a file has that is changed, and what another has
pub here : (files : Files) (name : Bytes) (content : Option Bytes) → get
    (with_content files name content) name ≡ content
here files name None = get-removed files name
here files name (Some bytes) = get-inserted files name bytes

pub elsewhere : (files : Files) (name : Bytes) (content : Option Bytes) (q : Bytes) → q ≢ name
    → get (with_content files name content) q ≡ get files q
elsewhere files name None q apart = get-remove_other files name q apart
elsewhere files name (Some bytes) q apart = get-insert_other files name bytes q apart

-- ---- contents

-- images that are alike show the same contents
kept_contents : (d i : Image) (account : Bytes) (c : Contents) → Kept d i → AreContents d account c
    → AreContents i account c
kept_contents d i account c k a = record {
  records = λ q is. a.records q is ∙ ap (option_map (take 49182)) (sym (k.others q (plain_of account q is)));
  only = a.only;
  leaves = a.leaves;
  clear = a.clear;
}

pub kept_shows : (accounts : List Bytes) (d i : Image) (parts : ByAccount Contents) → Kept d i → Shows accounts d parts
    → Shows accounts i parts
kept_shows accounts d i parts k shows number = kept_contents d i (account_at accounts number) (parts number) k
    (shows number)

-- the contents with one record changed
abbrev pub with_record : Contents → Bytes → Option Bytes → Contents
with_record c name content = record c { records = with_content c.records name content }

module _ (d i : Image) (account : Bytes) (c : Contents) (name : Bytes) (content : Option Bytes)
    (after : After (File name content ∷ []) d i) (old : AreContents d account c) where
  -- a file with another name is as it was
  unlike : (q : Bytes) → IsRecordOf account q → q ≢ name → get i.files q ≡ get d.files q
  unlike q is apart = after.others q (plain_of account q is) ∙ elsewhere d.files name content q apart

  -- the contents of an account whose record is changed
  own_contents : IsRecordOf account name → option_map (take 49182) content ≡ content
      → AreContents i account (with_record c name content)
  own_contents mine short = record {
    records = λ q is. ⊎_elim (at q is) (λ apart. elsewhere c.records name content q apart ∙ old.records q is
        ∙ ap (option_map (take 49182)) (sym (unlike q is apart))) (which q name);
    only = λ q some. ⊎_elim (λ same. subst (IsRecordOf account) (sym same) mine)
        (λ apart. old.only q (subst (λ (o : Option Bytes). IsSome o) (elsewhere c.records name content q apart) some))
        (which q name);
    leaves = old.leaves;
    clear = old.clear;
  }
    where
      at : (q : Bytes) → IsRecordOf account q → q ≡ name → get (with_content c.records name content) q ≡ option_map
          (take 49182) (get i.files q)
      at q is same =
          let there : get i.files q ≡ content = after.others q (plain_of account q is)
          ∙ ap (get (with_content d.files name content)) same ∙ here d.files name content in
          ap (get (with_content c.records name content)) same ∙ here c.records name content ∙ sym short
          ∙ ap (option_map (take 49182)) (sym there)

  -- those of another account stay
  other_contents : (IsRecordOf account name → ⊥) → AreContents i account c
  other_contents theirs = record {
    records = λ q is. old.records q is ∙ ap (option_map (take 49182)) (sym
        (unlike q is (λ same. theirs (subst (IsRecordOf account) same is))));
    only = old.only;
    leaves = old.leaves;
    clear = old.clear;
  }

-- all accounts' contents, with those of one replaced
abbrev pub with_part : ByAccount Contents → ℕ → Contents → ByAccount Contents
with_part parts number c k = cond (eqb k number) c (parts k)

module _ (accounts : List Bytes) (distinct : AreDistinct accounts) (number : ℕ) (name : Bytes) (content : Option Bytes)
    (mine : IsRecordOf (account_at accounts number) name) (short : option_map (take 49182) content ≡ content) where
  -- a change shows in its account's contents alone
  pub shows_change : (d i : Image) (parts : ByAccount Contents) → After (File name content ∷ []) d i
      → Shows accounts d parts
      → Shows accounts i (with_part parts number (with_record (parts number) name content))
  shows_change d i parts after shows k = at (eqb_tells k number)
    where
      new : Contents
      new = with_record (parts number) name content

      at : ((eqb k number ≡ true) × (k ≡ number)) ⊎ ((eqb k number ≡ false) × (k ≢ number))
          → AreContents i (account_at accounts k) (with_part parts number new k)
      at (inl h) = subst (λ (b : Bool). AreContents i (account_at accounts k) (cond b new (parts k))) (sym h.0)
          (subst (λ (n : ℕ). AreContents i (account_at accounts n) new) (sym h.1)
          (own_contents d i (account_at accounts number) (parts number) name content after (shows number) mine short))
      at (inr h) = subst (λ (b : Bool). AreContents i (account_at accounts k) (cond b new (parts k))) (sym h.0)
          (other_contents d i (account_at accounts k) (parts k) name content after (shows k)
          (λ theirs. h.1 (one_owner accounts distinct k number name theirs mine)))

  -- and leaves what is no account's
  pub others_change : (d i : Image) → After (File name content ∷ []) d i → OthersKept accounts d i
  others_change d i after = record {
    words = after.words;
    files = λ q plain none. after.others q plain ∙ elsewhere d.files name content q
        (λ same. none number (subst (IsRecordOf (account_at accounts number)) (sym same) mine));
  }

pub others_kept : (accounts : List Bytes) (d i : Image) → Kept d i → OthersKept accounts d i
others_kept accounts d i k = record { words = k.words; files = λ q plain none. k.others q plain }

pub others_then : (accounts : List Bytes) (d e i : Image) → OthersKept accounts d e → OthersKept accounts e i
    → OthersKept accounts d i
others_then accounts d e i f g = record {
  words = g.words ∙ f.words;
  files = λ q plain none. g.files q plain none
      ∙ f.files q plain none;
}
