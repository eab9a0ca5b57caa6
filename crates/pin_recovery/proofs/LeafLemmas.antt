-- Leaves with one changed, the tree of them, and a record that the host keeps.
use Rattle.std.proofs.Common.{◌≡◌, ℕ, ◌<◌, inl, inr, Option, Some, Ok, List, length, refl, sym, ◌∙◌, ap, arith}
use Rattle.std.proofs.lemmas.Bool.{cases_eq}
use Rattle.pw_path.specs.Tree.{root, aux_of, AgreeBut}
use Rattle.pw_path.specs.Path.{root_of}
use Rattle.pw_path.proofs.TreeLemmas.{root_of_changed, set_value_other, set_value_same}
use Rattle.pw_types.specs.Schedule.{IsSchedule}
use Rattle.pw_leaf.specs.declared.keys.ChipKeys.{ChipKeys}
use Rattle.pw_leaf.specs.Contents.{Contents, IsContents, new_contents}
use Rattle.pw_leaf.specs.LeafBytes.{leaf_bytes, leaf_mac}
use Rattle.pw_leaf.specs.Reading.{mac_of}
use Rattle.pw_leaf.proofs.RecordLemmas.{check_at-leaf_bytes, length-leaf_bytes}
use Rattle.pw_chip.specs.Step.{opened}
use Rattle.pw_chip.specs.Ledger.{with_leaf}
use Rattle.pw_chip.specs.Law.{value_of, values}
use Rattle.pw_chip.proofs.OpenLemmas.{mac_of-leaf_bytes}
use Rattle.pw_chip.proofs.StandingLemmas.{opened-standing}
use Rattle.label_tree.specs.Values.{with_value}
use Rattle.pin_recovery.specs.Devices.{Leaves, held_in, read_by, AreLeaves}

-- ---- values

-- other labels keep their values
agree_leaves : (keys : ChipKeys) (t : Leaves) (label : ℕ) (o : Option Contents) → AgreeBut label (values keys t) (values keys (with_leaf t label o))
unfolding AgreeBut
agree_leaves keys t label o = λ j ne. ap (value_of keys) (set_value_other t label o j ne)

-- the root with one leaf changed
pub root_leaf : (keys : ChipKeys) (t : Leaves) (label : ℕ) (o : Option Contents) → label < 16384 → root_of label (value_of keys o) (aux_of (values keys t) label) ≡ root (values keys (with_leaf t label o))
root_leaf keys t label o lt =
    root_of_changed (values keys t) (values keys (with_leaf t label o)) label (value_of keys o) lt (agree_leaves keys t label o) (ap (value_of keys) (set_value_same t label o))

-- one leaf changes, and one value
pub values_with : (keys : ChipKeys) (t : Leaves) (label : ℕ) (o : Option Contents) (hash : List ℕ) → hash ≡ value_of keys o
    → with_value (values keys t) label hash ≡ values keys (with_leaf t label o)
values_with keys t label o hash e =
    let at : (i : ℕ) → with_value (values keys t) label hash i ≡ values keys (with_leaf t label o) i =
    λ i. elim (cases_eq i label) [
      | inl same ↦ rw same (set_value_same (values keys t) label hash ∙ e ∙ ap (value_of keys) (sym (set_value_same t label o)))
      | inr ne ↦ set_value_other (values keys t) label hash i ne ∙ ap (value_of keys) (sym (set_value_other t label o i ne))
    ] in
    λ j i. at i j

-- ---- leaves

-- with one changed, they are leaves
pub leaves_with : (t : Leaves) (label : ℕ) (o : Option Contents) → AreLeaves t → ((x : Contents) → o ≡ Some x → IsContents x × (x.label ≡ label)) → AreLeaves (with_leaf t label o)
leaves_with t label o h known =
    let at : (i : ℕ) (x : Contents) → with_leaf t label o i ≡ Some x → IsContents x × (x.label ≡ i) =
    λ i x q. elim (cases_eq i label) [
      | inl same ↦ let k = known x (sym (rw same (set_value_same t label o)) ∙ q) in (k.0, k.1 ∙ sym same)
      | inr ne ↦ let k = sym (set_value_other t label o i ne) ∙ q in (h.each i x k, h.labels i x k)
    ] in
    record { each = λ i x q. (at i x q).0; labels = λ i x q. (at i x q).1 }

-- a new leaf's contents are a leaf's
pub new_is_contents : (label : ℕ) (les hes reset : List ℕ) (schedule : List (ℕ × ℕ)) (iv : List ℕ)
    → (label < 16384) × (length les ≡ 32) × (length hes ≡ 32) × (length reset ≡ 32) × IsSchedule schedule × (length iv ≡ 16) → IsContents (new_contents label les hes reset schedule iv)
new_is_contents label les hes reset schedule iv ok =
    record { label = ok.0; schedule = ok.4; wrong = omega arith; boot = omega arith; moment = omega arith; fresh = λ _. (refl, refl); les = ok.1; hes = ok.2; reset = ok.3; iv = ok.5 }

-- ---- records

-- a record's MAC
pub mac_is : (keys : ChipKeys) (x : Contents) → IsContents x → mac_of (leaf_bytes keys x) ≡ leaf_mac keys x
mac_is keys x h = mac_of-leaf_bytes keys x (length-leaf_bytes keys x h)

-- a record that was written is read
pub held_written : (keys : ChipKeys) (x : Contents) → IsContents x → held_in keys (leaf_bytes keys x) ≡ Some x
held_written keys x h = ap read_by (check_at-leaf_bytes keys x h)

-- the host's own record with its true path is opened
pub opened_own : (keys : ChipKeys) (t : Leaves) (label : ℕ) (x : Contents) (tree_root : List ℕ) → label < 16384 → AreLeaves t → t label ≡ Some x → tree_root ≡ root (values keys t)
    → opened keys tree_root label (aux_of (values keys t) label) (leaf_bytes keys x) ≡ Ok x
opened_own keys t label x tree_root lt h there r =
    opened-standing keys t tree_root label x (record { small = lt; there = there; contents = h.each label x there; own = h.labels label x there; root = r })
