-- What the files under leaves' names tell, and what an image without them shows.
use Rattle.std.proofs.Common.{◌≡◌, ℕ, ◌<◌, Bool, true, false, cond, eqb, Option, None, Some, Ok, List, length}
use Rattle.std.proofs.Common.{refl, sym, ◌∙◌, ap, subst}
use Rattle.std.specs.Prelude.{IsSome}
use Rattle.std.specs.FinMap.{get}
use Rattle.std.proofs.lemmas.Bool.{eq-eqb, eqb-true}
use Rattle.board_model.specs.Disk.{Image}
use Rattle.record_names.specs.Names.{leaf_name}
use Rattle.share_api.specs.Contents.{Bytes, Contents as Held}
use Rattle.image_path.specs.Showing.{ByAccount}
use Rattle.platform_core.specs.Records.{account_at}
use Rattle.platform_core.specs.Records as core
use Rattle.pw_path.specs.Tree.{no_hash}
use Rattle.pw_leaf.specs.declared.keys.ChipKeys.{ChipKeys}
use Rattle.pw_leaf.specs.Contents.{Contents}
use Rattle.pw_leaf.specs.LeafBytes.{leaf_bytes}
use Rattle.pw_leaf.specs.Reading.{mac_of}
use Rattle.pw_chip.specs.State.{ChipState}
use Rattle.pw_chip.specs.Law.{value_of}
use Rattle.pw_chip.specs.WordsBytes.{IsWords, words_at}
use Rattle.pin_recovery.specs.Devices.{record_at, tree_of}
use Rattle.pin_recovery.proofs.LeafLemmas.{mac_is}
use Rattle.platform_model.specs.Views.{Platform}
use Rattle.platform_images.specs.Shown.{leaf_record, Shows, IsStorable, without_leaves}
use Rattle.platform_images.specs.Openings.{IsLeafOf}
use Rattle.platform_images.proofs.OneLemmas.{recorded}

-- a file under a leaf's name is the record of that account's leaf
pub told_there : (accounts : List Bytes) (image : Image) (s : Platform) (number label : ℕ) (bytes : Bytes)
    → IsStorable accounts s → Shows accounts image s → number < length accounts → label < 16384
    → get image.files (leaf_name (account_at accounts number) label) ≡ Some bytes → IsLeafOf s number label bytes
told_there accounts image s number label bytes fits h known small there =
    let keys = s.devices.words.keys in
    let r = recorded keys (eqb (s.owners label) number) (s.devices.leaves label) bytes
    (sym (h.leaves number label known small) ∙ there) in
    record {
      owner = eqb-true (s.owners label) number r.owned;
      leaf = ap (record_at keys) r.there ∙ ap (λ (b : Bytes). Some b) r.spelled;
      value = ap (value_of keys) r.there ∙ sym (mac_is keys r.leaf (fits.leaves.each label r.leaf r.there))
          ∙ ap mac_of r.spelled;
    }

-- a label under which no account has a file isn't used
unused : (accounts : List Bytes) (image : Image) (s : Platform) (label : ℕ) → IsStorable accounts s
    → Shows accounts image s
    → ((number : ℕ) → number < length accounts → label < 16384
    → get image.files (leaf_name (account_at accounts number) label) ≡ None)
    → (o : Option Contents) → s.devices.leaves label ≡ o → s.devices.leaves label ≡ None
unused accounts image s label fits h none None e = e
unused accounts image s label fits h none (Some x) e =
    let owner = s.owners label in
    let keys = s.devices.words.keys in
    let known : owner < length accounts = fits.owners label (subst (λ (o : Option Contents). IsSome o) (sym e) refl) in
    let small : label < 16384 =
    subst (λ (n : ℕ). n < 16384) (fits.leaves.labels label x e) (fits.leaves.each label x e).label in
    let mine : leaf_record s owner label ≡ Some (leaf_bytes keys x) =
    ap (λ (b : Bool). cond b (record_at keys (s.devices.leaves label)) None) (eq-eqb owner owner refl)
    ∙ ap (record_at keys) e in
    let both : ◌≡◌ {A = Option Bytes} None (Some (leaf_bytes keys x)) =
    sym (none owner known small) ∙ h.leaves owner label known small ∙ mine in
    cc both

-- and has the value of one that isn't
pub told_absent : (accounts : List Bytes) (image : Image) (s : Platform) (label : ℕ) → IsStorable accounts s
    → Shows accounts image s
    → ((number : ℕ) → number < length accounts → label < 16384
    → get image.files (leaf_name (account_at accounts number) label) ≡ None)
    → (s.devices.leaves label ≡ None) × (tree_of s.devices label ≡ no_hash)
told_absent accounts image s label fits h none =
    let e = unused accounts image s label fits h none (s.devices.leaves label) refl in
    (e, ap (value_of s.devices.words.keys) e)

-- ---- no leaf

-- no account has a record at a label without a leaf
bare : (keys : ChipKeys) (b : Bool) → cond b (record_at keys None) None ≡ None
bare keys true = refl
bare keys false = refl

-- an image without a leaf's record shows a platform without leaves
pub shown_bare : (accounts : List Bytes) (image : Image) (w : ChipState) (parts : ByAccount Held)
    → words_at image.words ≡ Ok (Some w) → core.Shows accounts image parts
    → ((number label : ℕ) → number < length accounts → label < 16384
    → get image.files (leaf_name (account_at accounts number) label) ≡ None)
    → Shows accounts image (without_leaves w parts)
shown_bare accounts image w parts words shown none = record {
  words = words;
  leaves = λ number label known small. none number label known small ∙ sym (bare w.keys (eqb 0 number));
  records = λ number q is. (shown number).records q is;
  only = λ number q some. (shown number).only q some;
}

-- which is storable
pub storable_bare : (accounts : List Bytes) (w : ChipState) (parts : ByAccount Held) → IsWords w
    → IsStorable accounts (without_leaves w parts)
storable_bare accounts w parts is = record {
  words = is;
  leaves = record { each = λ label x e. cc e; labels = λ label x e. cc e };
  owners = λ label some. cc some;
}
