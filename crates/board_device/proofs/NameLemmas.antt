-- Names that a share takes for an account's, and names of accounts.
use Rattle.std.proofs.Common.{◌≡◌, ◌≢◌, ⊎_elim, ℕ, zero, suc, ◌<◌, List, [], ◌∷◌, ◌++◌, length, map, get_or, Bool}
use Rattle.std.proofs.Common.{true, false, cond, refl, sym, ap, ◌∙◌, subst, true≢false, None, Some, arith}
use Rattle.std.specs.Prelude.{Contains, IsTrue, ◌&&◌, codes}
use Rattle.std.specs.List.{list_all}
use Rattle.std.proofs.lemmas.List.{append_cancel_left, get_or-map, length-map}
use Rattle.std.proofs.lemmas.List.Elements.{Contains-append_right}
use Rattle.std.specs.Fmt.{decimal}
use Rattle.hex.specs.Hex.{encode_lower}
use Rattle.home_names.specs.Names.{is_account_name}
use Rattle.record_names.specs.Names.{Bytes, IsRecordName, account_of, stash_name}
use Rattle.record_names.specs.Names.{factor_name, file_name, stash_end, factor_end, file_end, leaf_end}
use Rattle.record_names.proofs.NameLemmas.{bytes-account, before_full_stop, account_of-record}
use Rattle.cabinet.specs.Names.{is_held, with_name, with_names}
use Rattle.cabinet.specs.Opening.{accounts_found}
use Rattle.share_api.specs.Conditions.{IsFiledName, IsOwnName}
use Rattle.share_api.specs.declared.step.Write.TheVariants.{Put, Remove, RemoveLeaf}
use Rattle.share_api.specs.declared.step.Op.{Op}
use Rattle.share_api.specs.declared.step.Op.TheVariants.{Names, Get, Do, InsertLeaf, TryLeaf, ResetLeaf, LookLeaf}
use Rattle.platform_core.specs.Asked.{IsOwn}
use Rattle.platform_core.specs.Records.{IsRecordOf, account_at}
use Rattle.platform_lock.specs.Answers.{IsAsked}
use Rattle.board_device.specs.Idle.{HasRecordNames, is_on_leaf}

-- ---- names of records

module _ (account : Bytes) (plain : IsTrue (is_account_name account)) (name : Bytes) (named : IsRecordName name) where
  -- a name of another kind than a leaf's
  record_by : (one two : ℕ) (rest : Bytes) → name ≡ account ++ 46 ∷ one ∷ two ∷ rest → (one ≡ 108 → two ≢ 101)
      → IsRecordOf account name
  unfolding leaf_end
  record_by one two rest is apart = record {
    named = named;
    own = ap account_of is ∙ before_full_stop account (one ∷ two ∷ rest) (bytes-account account plain);
    filed = λ label below same. no_leaf label (append_cancel_left account (46 ∷ one ∷ two ∷ rest) (leaf_end label)
        (sym is ∙ same));
  }
    where
      no_leaf : (label : ℕ) → 46 ∷ one ∷ two ∷ rest ≡ leaf_end label → ⊥
      no_leaf label same = apart (ap (λ (l : Bytes). get_or l 1 0) same) (ap (λ (l : Bytes). get_or l 2 0) same)

  stash_by : name ≡ stash_name account → IsRecordOf account name
  unfolding stash_end
  stash_by is = record_by 115 116 (codes "ash") is (λ e. absurd (omega (arith, e)))

  factor_by : (label : Bytes) (edition : ℕ) → name ≡ factor_name account label edition → IsRecordOf account name
  unfolding factor_end
  factor_by label edition is =
      record_by 102 97 (99 ∷ 46 ∷ (label ++ 46 ∷ decimal edition)) is (λ e. absurd (omega (arith, e)))

  file_by : (file : Bytes) → name ≡ file_name account file → IsRecordOf account name
  unfolding file_end
  file_by file is = record_by 102 105 (108 ∷ 101 ∷ 46 ∷ encode_lower file) is (λ e. absurd (omega (arith, e)))

  filed_record : IsFiledName account name → IsRecordOf account name
  filed_record filed =
      ⊎_elim stash_by (λ rest. ⊎_elim (λ h. factor_by h.0 h.1 h.2) (λ h. file_by h.0 h.1) rest) filed

-- a name that the account's share takes is one of its records
own_record : (account name : Bytes) → IsTrue (is_account_name account) → IsRecordName name
    → IsOwnName (Some account) name
    → IsRecordOf account name
own_record account name plain named own =
    filed_record account plain name named (subst (λ (a : Bytes). IsFiledName a name) own.1 own.2)

-- what the lock asks of a step on records is what the platform asks
pub asked_own : (account : Bytes) (op : Op) → IsTrue (is_account_name account) → HasRecordNames op
    → is_on_leaf op ≡ false
    → IsAsked (Some account) op → IsOwn account op
asked_own account Names plain named records asked = tt
asked_own account (Get name) plain named records asked = own_record account name plain named asked
asked_own account (Do (Put name bytes)) plain named records asked = (
  own_record account name plain named asked.0,
  asked.1,
)
asked_own account (Do (Remove name)) plain named records asked = own_record account name plain named asked
asked_own account (Do (RemoveLeaf label)) plain named records asked = absurd (true≢false records)
asked_own account (InsertLeaf leaf) plain named records asked = absurd (true≢false records)
asked_own account (TryLeaf label les) plain named records asked = absurd (true≢false records)
asked_own account (ResetLeaf label secret) plain named records asked = absurd (true≢false records)
asked_own account (LookLeaf label) plain named records asked = absurd (true≢false records)

-- the account that the lock sees at a number
pub owner_is : (accounts : List Bytes) (number : ℕ) → number < length (map (λ (account : Bytes). Some account) accounts)
    → get_or (map (λ (account : Bytes). Some account) accounts) number None ≡ Some (account_at accounts number)
owner_is accounts number below =
    get_or-map (λ (account : Bytes). Some account) accounts number [] None
    (subst (λ (n : ℕ). number < n) (length-map accounts (λ (account : Bytes). Some account)) below)

-- ---- names of accounts

and_both : (a b : Bool) → (a && b) ≡ true → (a ≡ true) × (b ≡ true)
and_both true b e = (refl, e)
and_both false b e = absurd (true≢false (sym e))

and_of : (a b : Bool) → a ≡ true → b ≡ true → (a && b) ≡ true
and_of true b e f = f
and_of false b e f = absurd (true≢false (sym e))

-- each of accounts that are in their grammar
pub name_at : (accounts : List Bytes) (number : ℕ) → IsTrue (list_all is_account_name accounts)
    → number < length accounts
    → IsTrue (is_account_name (account_at accounts number))
name_at [] number all below = absurd (omega (arith, below))
name_at (account ∷ accounts) zero all below = (and_both (is_account_name account)
    (list_all is_account_name accounts) all).0
name_at (account ∷ accounts) (suc number) all below =
    name_at accounts number (and_both (is_account_name account) (list_all is_account_name accounts) all).1
    (omega (arith, below))

all_push : (accounts : List Bytes) (account : Bytes) → list_all is_account_name accounts ≡ true
    → is_account_name account ≡ true
    → list_all is_account_name (accounts ++ account ∷ []) ≡ true
all_push [] account all is = and_of (is_account_name account) true is refl
all_push (x ∷ xs) account all is =
    let both = and_both (is_account_name x) (list_all is_account_name xs) all in
    and_of (is_account_name x) (list_all is_account_name (xs ++ account ∷ [])) both.0 (all_push xs account both.1 is)

all_with : (accounts : List Bytes) (account : Bytes) → list_all is_account_name accounts ≡ true
    → is_account_name account ≡ true
    → list_all is_account_name (with_name accounts account) ≡ true
all_with accounts account all is =
    elim (is_held accounts account) as (λ b. list_all is_account_name (cond b accounts (accounts ++ account ∷ [])) ≡
    true)
    [ true ↦ all | false ↦ all_push accounts account all is ]

all_names : (accounts more : List Bytes) → list_all is_account_name accounts ≡ true
    → list_all is_account_name more ≡ true
    → list_all is_account_name (with_names accounts more) ≡ true
all_names accounts [] all is = all
all_names accounts (x ∷ xs) all is =
    let both = and_both (is_account_name x) (list_all is_account_name xs) is in
    all_names (with_name accounts x) xs (all_with accounts x all both.0) both.1

owners_named : (names : List Bytes) → ((q : Bytes) → Contains names q → IsRecordName q)
    → list_all is_account_name (map account_of names) ≡ true
owners_named [] are = refl
owners_named (x ∷ xs) are =
    and_of (is_account_name (account_of x)) (list_all is_account_name (map account_of xs))
    (account_of-record x (are x (0, omega arith, refl)))
    (owners_named xs (λ q h. are q (Contains-append_right (x ∷ []) xs q h)))

-- accounts that are named or found are in their grammar, where the named ones are
pub found_named : (named names accounts : List Bytes) → accounts ≡ accounts_found named names
    → ((q : Bytes) → Contains names q → IsRecordName q) → list_all is_account_name named ≡ true
    → list_all is_account_name accounts ≡ true
found_named named names accounts is are all =
    subst (λ (xs : List Bytes). list_all is_account_name xs ≡ true) (sym is)
    (all_names (with_names [] named) (map account_of names) (all_names [] named refl all) (owners_named names are))
