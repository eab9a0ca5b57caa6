-- Each image shows contents, and no other ones.
use Rattle.std.proofs.Common.{◌≡◌, ◌⊎◌, ⊎_elim, inl, inr, ℕ, ◌<◌, List, [], ◌∷◌, Option, None, Some, refl, sym, ap}
use Rattle.std.proofs.Common.{◌∙◌, subst, Bool, true, false, cond, true≢false, arith}
use Rattle.std.specs.Prelude.{Contains, IsTrue, IsSome, is_some, IfSome, option_map, take, bytes_eq, ◌&&◌, not, codes}
use Rattle.std.specs.Prelude.{nat_eq}
use Rattle.std.specs.List.{starts_with, after_first}
use Rattle.std.specs.FinMap.{get, get-empty, same_map, slice_cmp-IsAntisymmetric, nat_cmp-IsAntisymmetric}
use Rattle.std.specs.Cmp.Lexicographic.{slice_cmp, nat_list_cmp_total}
use Rattle.std.specs.Ordering.{nat_cmp}
use Rattle.std.proofs.lemmas.Slice.Eq.{bytes_eq-Decides}
use Rattle.std.proofs.lemmas.List.Elements.{Contains-append_right, Contains-append_cases}
use Rattle.board_model.specs.Disk.{Image, Disk}
use Rattle.board_model.specs.Files.{with_content}
use Rattle.record_names.specs.Names.{Parts, Stash, Factor, Leaf, File, AreParts, IsRecordName, account_of, owner_of}
use Rattle.record_names.specs.Names.{tail_of, name_of, is_full_stop, leaf_name, is_account_name}
use Rattle.record_names.proofs.NameLemmas.{names_tell, account_of-name, account_of-record, after_full_stop, bytes-owner}
use Rattle.record_names.proofs.NameLemmas.{name_parts}
use Rattle.cabinet.specs.Names.{is_held}
use Rattle.cabinet.specs.Named.{AreNamed}
use Rattle.cabinet.proofs.EditLemmas.{which}
use Rattle.cabinet.proofs.NamedLemmas.{held-contains, contains-held}
use Rattle.cabinet.proofs.OpeningLemmas.{none_in, only_one}
use Rattle.share_api.specs.Contents.{Bytes, Records, Contents}
use Rattle.image_path.specs.Showing.{ByAccount}
use Rattle.platform_core.specs.Records.{IsRecordOf, AreContents, account_at, Shows}
use Rattle.platform_core.specs.Shown.{is_leaf, is_filed, records_under, contents_under, contents_in}
use Rattle.platform_core.specs.Standing.{IsRight, AreThere}
use Rattle.platform_core.specs.Unsure.{Memory}
use Rattle.platform_core.proofs.RecordLemmas.{here, elsewhere, kept_shows}

-- ---- which names are an account's

and_both : (a b : Bool) → (a && b) ≡ true → (a ≡ true) × (b ≡ true)
and_both true b e = (refl, e)
and_both false b e = absurd (true≢false (sym e))

and_of : (a b : Bool) → a ≡ true → b ≡ true → (a && b) ≡ true
and_of true b e f = f
and_of false b e f = absurd (true≢false (sym e))

not_true : (b : Bool) → not b ≡ true → b ≡ false
not_true true e = absurd (true≢false (sym e))
not_true false e = refl

true_of_not : (b : Bool) → b ≡ false → not b ≡ true
true_of_not true e = absurd (true≢false e)
true_of_not false e = refl

-- whether parts are a leaf's
abbrev leaf_parts : Parts → Bool
leaf_parts (Stash account) = false
leaf_parts (Factor account label edition) = false
leaf_parts (Leaf account label) = true
leaf_parts (File account name) = false

tail_tells : (parts : Parts) → starts_with nat_eq (tail_of parts) (codes "leaf.") ≡ leaf_parts parts
tail_tells (Stash account) = refl
tail_tells (Factor account label edition) = refl
tail_tells (Leaf account label) = refl
tail_tells (File account name) = refl

leaf_tells : (name : Bytes) (is : IsRecordName name) → is_leaf name ≡ leaf_parts is.parts
leaf_tells name is =
    ap (λ (rest : Bytes). starts_with nat_eq rest (codes "leaf."))
    (ap (after_first is_full_stop) (name_parts name is.parts is.spelled)
    ∙ after_full_stop (owner_of is.parts) (tail_of is.parts) (bytes-owner is.parts is.are))
    ∙ tail_tells is.parts

owner_tells : (name : Bytes) (is : IsRecordName name) → owner_of is.parts ≡ account_of name
owner_tells name is = sym (ap account_of is.spelled ∙ account_of-name is.parts is.are)

-- a name whose parts are a leaf's is spelled as one
leaf_spelled : (parts : Parts) → AreParts parts → leaf_parts parts ≡ true
    → (label : ℕ) × (label < 16384) × (name_of parts ≡ leaf_name (owner_of parts) label)
leaf_spelled (Stash account) are e = absurd (true≢false (sym e))
leaf_spelled (Factor account label edition) are e = absurd (true≢false (sym e))
leaf_spelled (Leaf account label) are e = (label, are.1, refl)
leaf_spelled (File account name) are e = absurd (true≢false (sym e))

-- a record of the account is filed as such
filed : (account name : Bytes) → IsRecordOf account name → is_filed account name ≡ true
filed account name is =
    and_of (bytes_eq (account_of name) account) (not (is_leaf name))
    ((bytes_eq-Decides (account_of name) account).1 is.own)
    (true_of_not (is_leaf name) (leaf_tells name is.named ∙ no_leaf (leaf_parts is.named.parts) refl))
  where
    no_leaf : (b : Bool) → leaf_parts is.named.parts ≡ b → b ≡ false
    no_leaf true e =
        let h = leaf_spelled is.named.parts is.named.are e in
        absurd (is.filed h.0 h.1
        (is.named.spelled ∙ h.2 ∙ ap (λ (a : Bytes). leaf_name a h.0) (owner_tells name is.named ∙ is.own)))
    no_leaf false e = refl

-- what is filed under a record's name is one
filed_is : (account name : Bytes) → IsRecordName name → is_filed account name ≡ true → IsRecordOf account name
filed_is account name named e =
    let both = and_both (bytes_eq (account_of name) account) (not (is_leaf name)) e in
    let own : account_of name ≡ account = (bytes_eq-Decides (account_of name) account).0 both.0 in
    record {
      named = named;
      own = own;
      filed = λ label below same.
          let are : AreParts (Leaf account label) =
          (subst (λ (a : Bytes). IsTrue (is_account_name a)) own (account_of-record name named), below) in
          let parts : named.parts ≡ Leaf account label = names_tell named.parts (Leaf account label) named.are are
          (sym named.spelled ∙ same) in
          true≢false (sym (ap leaf_parts parts) ∙ sym (leaf_tells name named) ∙ not_true (is_leaf name) both.1);
    }

-- ---- the records under names

module _ (now : Image) (account : Bytes) where
  abbrev cut : Bytes → Option Bytes
  cut q = option_map (take 49182) (get now.files q)

  abbrev under : List Bytes → Records
  under names = records_under names now account

  -- one name more
  under_front : (name : Bytes) (names : List Bytes) → is_filed account name ≡ true
      → under (name ∷ names) ≡ with_content (under names) name (cut name)
  under_front name names e = ap (λ (b : Bool). cond b (with_content (under names) name (cut name)) (under names)) e

  under_rest : (name : Bytes) (names : List Bytes) → is_filed account name ≡ false → under (name ∷ names) ≡ under names
  under_rest name names e = ap (λ (b : Bool). cond b (with_content (under names) name (cut name)) (under names)) e

  test : (b : Bool) → (b ≡ true) ⊎ (b ≡ false)
  test true = inl refl
  test false = inr refl

  -- a record that is named has what is there
  under_in : (names : List Bytes) (q : Bytes) → is_filed account q ≡ true → Contains names q
      → get (under names) q ≡ cut q
  under_in [] q is h = absurd (none_in q h)
  under_in (name ∷ names) q is h =
      ⊎_elim
      (λ same.
      ap (λ (m : Records). get m q) (under_front name names (subst (λ (n : Bytes). is_filed account n ≡ true) same is))
      ∙ ap (get (with_content (under names) name (cut name))) same ∙ here (under names) name (cut name)
      ∙ ap cut (sym same))
      (λ apart.
      let rest = ⊎_elim (λ one. absurd (apart (sym (only_one name q one)))) (λ later. under_in names q is later)
      (Contains-append_cases (name ∷ []) names q h) in
      ⊎_elim
      (λ yes. ap (λ (m : Records). get m q) (under_front name names yes)
      ∙ elsewhere (under names) name (cut name) q apart ∙ rest)
      (λ no. ap (λ (m : Records). get m q) (under_rest name names no) ∙ rest)
      (test (is_filed account name)))
      (which q name)

  -- what there is under a name was filed
  under_only : (names : List Bytes) (q : Bytes) → IsSome (get (under names) q) → (is_filed account q ≡ true)
      × Contains names q
  under_only [] q some = absurd (true≢false (sym (sym (ap is_some (get-empty (slice_cmp nat_cmp) q)) ∙ some)))
  under_only (name ∷ names) q some =
      let later : IsSome (get (under names) q) → (is_filed account q ≡ true) × Contains (name ∷ names) q =
      (λ is. let rest = under_only names q is in (rest.0, Contains-append_right (name ∷ []) names q rest.1)) in
      ⊎_elim
      (λ yes. ⊎_elim
      (λ same. (subst (λ (n : Bytes). is_filed account n ≡ true) (sym same) yes, (0, omega arith, sym same)))
      (λ apart. later (subst IsSome
      (ap (λ (m : Records). get m q) (under_front name names yes) ∙ elsewhere (under names) name (cut name) q apart)
      some))
      (which q name))
      (λ no. later (subst IsSome (ap (λ (m : Records). get m q) (under_rest name names no)) some))
      (test (is_filed account name))

  -- the contents under the names of the records that are there are those of the account
  pub under_shows : (doubtful names : List Bytes) → AreNamed doubtful now names
      → AreContents now account (contents_under names now account)
  under_shows doubtful names named = record {
    records = λ q is. ⊎_elim
        (λ held. under_in names q (filed account q is) (held-contains names q held))
        (λ none. absent q is (λ h. true≢false (sym (contains-held names q h) ∙ none)))
        (test (is_held names q));
    only = λ q some. let h = under_only names q some in filed_is account q (named.only q h.1).0 h.0;
    leaves = refl;
    clear = refl;
  }
    where
      -- a record that isn't named isn't there
      absent : (q : Bytes) → IsRecordOf account q → (Contains names q → ⊥) → get (under names) q ≡ cut q
      absent q is none =
          no_some (get (under names) q) (λ some. none (under_only names q some).1)
          ∙ sym (ap (option_map (take 49182)) (no_some (get now.files q) (λ some. none (named.every q is.named some))))
        where
          no_some : (o : Option Bytes) → (IsSome o → ⊥) → o ≡ None
          no_some None lacks = refl
          no_some (Some x) lacks = absurd (lacks refl)

-- ---- what an image shows

-- of a platform that is right the accounts' contents are shown by what is there
pub right_shows : (accounts : List Bytes) (disk : Disk) (memory : Memory) (unsettled : Bool)
    → IsRight disk memory unsettled
    → AreThere accounts disk (contents_in accounts memory.names disk.now)
right_shows accounts disk memory unsettled right =
    subst (λ (o : Option Image). IfSome o (λ now. Shows accounts now (contents_in accounts memory.names o)))
    (sym right.told)
    (λ number. under_shows right.now (account_at accounts number) right.named.doubtful memory.names right.named.named)

-- and by each image, where no step has failed since the board was last settled
pub settled_shows : (accounts : List Bytes) (disk : Disk) (memory : Memory) → IsRight disk memory false
    → (i : Image) → disk.may_leave i → Shows accounts i (contents_in accounts memory.names disk.now)
settled_shows accounts disk memory right i left =
    subst (λ (o : Option Image). Shows accounts i (contents_in accounts memory.names o)) (sym right.told)
    (kept_shows accounts right.now i (contents_in accounts memory.names (Some right.now))
    (right.settled refl right.now i right.told left)
    (λ number. under_shows right.now (account_at accounts number) right.named.doubtful memory.names right.named.named))

-- an image has one contents of an account
pub one_contents : (image : Image) (account : Bytes) (a b : Contents) → AreContents image account a
    → AreContents image account b → a ≡ b
one_contents image account a b one other =
    λ i. record {
      records = same i;
      leaves = (one.leaves ∙ sym other.leaves) i;
      doubt = (one.clear ∙ sym other.clear) i;
    }
  where
    at : (q : Bytes) (x y : Option Bytes) → get a.records q ≡ x → get b.records q ≡ y → x ≡ y
    at q None None e f = refl
    at q (Some x) y e f =
        let is = one.only q (subst IsSome (sym e) refl) in
        sym e ∙ one.records q is ∙ sym (other.records q is) ∙ f
    at q None (Some y) e f =
        let is = other.only q (subst IsSome (sym f) refl) in
        sym e ∙ one.records q is ∙ sym (other.records q is) ∙ f

    same : a.records ≡ b.records
    same = same_map nat_list_cmp_total (slice_cmp-IsAntisymmetric nat_cmp-IsAntisymmetric) a.records b.records
        (λ q. at q (get a.records q) (get b.records q) refl refl)

pub one_shown : (accounts : List Bytes) (image : Image) (f g : ByAccount Contents) → Shows accounts image f
    → Shows accounts image g → f ≡ g
one_shown accounts image f g one other = λ i number. one_contents image (account_at accounts number) (f number)
    (g number) (one number) (other number) i
