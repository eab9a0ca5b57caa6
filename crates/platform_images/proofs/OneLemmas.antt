-- An image shows one platform.
use Rattle.std.proofs.Common.{◌≡◌, ℕ, ◌<◌, Bool, true, false, cond, eqb, Option, None, Some, Result, Ok, List, length}
use Rattle.std.proofs.Common.{refl, sym, ◌∙◌, ap, subst}
use Rattle.std.specs.Prelude.{option_map, IsSome}
use Rattle.std.specs.FinMap.{get, same_map, slice_cmp-IsAntisymmetric, nat_cmp-IsAntisymmetric}
use Rattle.std.specs.Cmp.Lexicographic.{nat_list_cmp_total}
use Rattle.std.proofs.lemmas.Bool.{eq-eqb, eqb-true}
use Rattle.board_model.specs.Disk.{Image}
use Rattle.share_api.specs.Contents.{Bytes}
use Rattle.pw_leaf.specs.declared.keys.ChipKeys.{ChipKeys}
use Rattle.pw_leaf.specs.declared.fault.LeafFault.{LeafFault}
use Rattle.pw_leaf.specs.Contents.{Contents, IsContents}
use Rattle.pw_leaf.specs.LeafBytes.{leaf_bytes}
use Rattle.pw_leaf.specs.Reading.{check_at}
use Rattle.pw_leaf.proofs.RecordLemmas.{check_at-leaf_bytes}
use Rattle.pw_chip.specs.State.{ChipState}
use Rattle.pw_chip.specs.declared.bytes.WordsFault.{WordsFault}
use Rattle.pin_recovery.specs.Devices.{Leaves, record_at}
use Rattle.platform_model.specs.Views.{Platform, PlainLeaf, plain, view_of}
use Rattle.platform_images.specs.Shown.{leaf_record, Shows, IsStorable, AreAlike}

-- leaves with one record are one
same_contents : (keys : ChipKeys) (x y : Contents) → IsContents x → IsContents y
    → leaf_bytes keys x ≡ leaf_bytes keys y → x ≡ y
same_contents keys x y first second e =
    let p : ◌≡◌ {A = Result Contents LeafFault} (Ok x) (Ok y) =
    sym (check_at-leaf_bytes keys x first) ∙ ap (check_at keys) e ∙ check_at-leaf_bytes keys y second in
    cc p

-- a record that an account has is that of a leaf at its label
pub record IsRecorded (keys : ChipKeys) (mine : Bool) (o : Option Contents) (bytes : Bytes) : Type 0 where
  pub owned : mine ≡ true
  pub leaf : Contents
  pub there : o ≡ Some leaf
  pub spelled : leaf_bytes keys leaf ≡ bytes

-- each such record is
pub recorded : (keys : ChipKeys) (mine : Bool) (o : Option Contents) (bytes : Bytes)
    → cond mine (record_at keys o) None ≡ Some bytes → IsRecorded keys mine o bytes
recorded keys true (Some x) bytes e = record { owned = refl; leaf = x; there = refl; spelled = cc e }
recorded keys true None bytes e = cc e
recorded keys false o bytes e = cc e

module _ (accounts : List Bytes) (image : Image) (one other : Platform) (fits : IsStorable accounts one)
    (holds : IsStorable accounts other) (h : Shows accounts image one) (k : Shows accounts image other) where
  -- the words are the same
  words_same : one.devices.words ≡ other.devices.words
  words_same =
      let p : ◌≡◌ {A = Result (Option ChipState) WordsFault} (Ok (Some one.devices.words))
      (Ok (Some other.devices.words)) = sym h.words ∙ k.words in
      cc p

  -- a leaf of the one platform is the other's, and the same account's
  found : (label : ℕ) (x : Contents) → one.devices.leaves label ≡ Some x
      → (other.devices.leaves label ≡ Some x) × (other.owners label ≡ one.owners label)
  found label x there =
      let owner = one.owners label in
      let known : owner < length accounts =
      fits.owners label (subst (λ (o : Option Contents). IsSome o) (sym there) refl) in
      let is = fits.leaves.each label x there in
      let small : label < 16384 = subst (λ (n : ℕ). n < 16384) (fits.leaves.labels label x there) is.label in
      let mine : leaf_record one owner label ≡ Some (leaf_bytes one.devices.words.keys x) =
      ap (λ (b : Bool). cond b (record_at one.devices.words.keys (one.devices.leaves label)) None)
      (eq-eqb owner owner refl)
      ∙ ap (record_at one.devices.words.keys) there in
      let same : leaf_record other owner label ≡ Some (leaf_bytes one.devices.words.keys x) =
      sym (k.leaves owner label known small) ∙ h.leaves owner label known small ∙ mine in
      let r = recorded other.devices.words.keys (eqb (other.owners label) owner) (other.devices.leaves label)
      (leaf_bytes one.devices.words.keys x) same in
      let spelled : leaf_bytes other.devices.words.keys r.leaf ≡ leaf_bytes other.devices.words.keys x =
      r.spelled ∙ ap (λ (w : ChipState). leaf_bytes w.keys x) words_same in
      let equal = same_contents other.devices.words.keys r.leaf x (holds.leaves.each label r.leaf r.there) is spelled in
      (r.there ∙ ap (λ (y : Contents). Some y) equal, eqb-true (other.owners label) owner r.owned)

  -- the records of each account are the same
  records_same : (number : ℕ) → one.records number ≡ other.records number
  records_same number =
      same_map nat_list_cmp_total (slice_cmp-IsAntisymmetric nat_cmp-IsAntisymmetric) (one.records number)
      (other.records number)
      (λ q. at q (get (one.records number) q) (get (other.records number) q) refl refl)
    where
      at : (q : Bytes) (x y : Option Bytes) → get (one.records number) q ≡ x → get (other.records number) q ≡ y → x ≡ y
      at q None None e f = refl
      at q (Some x) y e f =
          let is = h.only number q (subst IsSome (sym e) refl) in
          sym e ∙ h.records number q is ∙ sym (k.records number q is) ∙ f
      at q None (Some y) e f =
          let is = k.only number q (subst IsSome (sym f) refl) in
          sym e ∙ h.records number q is ∙ sym (k.records number q is) ∙ f

-- what each has of the other is the same
each_way : (o p : Option Contents) → ((x : Contents) → o ≡ Some x → p ≡ Some x)
    → ((x : Contents) → p ≡ Some x → o ≡ Some x) → o ≡ p
each_way None None f g = refl
each_way (Some x) p f g = sym (f x refl)
each_way None (Some y) f g = g y refl

-- a label without a leaf shows nothing
pub nothing : (b c : Bool) → ◌≡◌ {A = Option PlainLeaf} (cond b None None) (cond c None None)
nothing true true = refl
nothing true false = refl
nothing false true = refl
nothing false false = refl

-- an account sees the same of a leaf, where the leaf's owner is the same
seen_same : (b c : Bool) (o : Option Contents) → ((x : Contents) → o ≡ Some x → b ≡ c)
    → cond b (option_map plain o) None ≡ cond c (option_map plain o) None
seen_same b c None f = nothing b c
seen_same b c (Some x) f = ap (λ (d : Bool). cond d (Some (plain x)) None) (f x refl)

module _ (accounts : List Bytes) (image : Image) (one other : Platform) (fits : IsStorable accounts one)
    (holds : IsStorable accounts other) (h : Shows accounts image one) (k : Shows accounts image other) where
  -- the leaves are the same
  leaves_same : one.devices.leaves ≡ other.devices.leaves
  leaves_same =
      let at : (label : ℕ) → one.devices.leaves label ≡ other.devices.leaves label =
      λ label. each_way (one.devices.leaves label) (other.devices.leaves label)
      (λ x e. (found accounts image one other fits holds h k label x e).0)
      (λ x e. (found accounts image other one holds fits k h label x e).0) in
      λ i label. at label i

  -- what an account sees of them
  owned_same : (number label : ℕ) → (view_of one number).leaves label ≡ (view_of other number).leaves label
  owned_same number label =
      seen_same (eqb (one.owners label) number) (eqb (other.owners label) number) (one.devices.leaves label)
      (λ x e. ap (λ (owner : ℕ). eqb owner number) (sym (found accounts image one other fits holds h k label x e).1))
      ∙ ap (λ (t : Leaves). cond (eqb (other.owners label) number) (option_map plain (t label)) None) leaves_same

  -- so the devices are the same, and each account's view
  pub one_platform : AreAlike one other
  one_platform = record {
    devices =
        let words = words_same accounts image one other fits holds h k in
        let leaves = leaves_same in
        λ i. record { words = words i; leaves = leaves i };
    views = λ number.
        let records = records_same accounts image one other fits holds h k number in
        let leaves : (view_of one number).leaves ≡ (view_of other number).leaves =
        λ i label. owned_same number label i in
        λ i. record { records = records i; leaves = leaves i };
  }
