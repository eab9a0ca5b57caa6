-- A leaf that the chip accepts is the ledger's.
use Rattle.std.proofs.Common.{◌≡◌, ℕ, ◌<◌, cond, eqb, ltb, Option, Some, None, Result, Ok, Err, List, ◌++◌, length, refl, sym, ◌∙◌, ap}
use Rattle.std.specs.Prelude.{bytes_eq}
use Rattle.std.proofs.lemmas.Bool.{ltb-true}
use Rattle.std.proofs.lemmas.Slice.Eq.{bytes_eq-Decides}
use Rattle.std.proofs.lemmas.List.{take-append-drop}
use Rattle.hmac_sha.specs.Hmac.{hmac}
use Rattle.hmac_sha.proofs.BlockLemmas.{length-hmac}
use Rattle.pw_path.specs.Tree.{root, aux_of, AllHashes, no_hash}
use Rattle.pw_path.specs.Path.{root_of, OnPath, OnTree, IsAux, HasNoCollision}
use Rattle.pw_path.proofs.TreeLemmas.{true_value}
use Rattle.pw_leaf.specs.declared.keys.ChipKeys.{ChipKeys}
use Rattle.pw_leaf.specs.declared.fault.LeafFault.{LeafFault}
use Rattle.pw_leaf.specs.declared.fault.LeafFault.TheVariants.{BadShape}
use Rattle.pw_leaf.specs.Contents.{Contents, IsContents}
use Rattle.pw_leaf.specs.LeafBytes.{leaf_text, leaf_mac, leaf_bytes}
use Rattle.pw_leaf.specs.Reading.{check_at, mac_of, text_of}
use Rattle.pw_leaf.proofs.Cases.{on_cond}
use Rattle.pw_leaf.proofs.ReadLemmas.{IsChecked, check_at-is}
use Rattle.pw_leaf.proofs.RecordLemmas.{length-leaf_mac, check_at-leaf_bytes}
use Rattle.pw_chip.specs.declared.open.Refusal.TheVariants.{NoLabel, NoLeaf, NoPath}
use Rattle.pw_chip.specs.Step.{opened, opened_on}
use Rattle.pw_chip.specs.Law.{value_of, values, InLeaves, HasNoMacCollision}

-- the leaves of a ledger whose nodes are in N and whose MACs' inputs are in M
pub record Covered (N M : List ℕ → Type 0) (keys : ChipKeys) (leaves : ℕ → Option Contents) : Type 0 where
  pub leaf : (label : ℕ) (x : Contents) → leaves label ≡ Some x → IsContents x
  pub label : (label : ℕ) (x : Contents) → leaves label ≡ Some x → x.label ≡ label
  pub nodes : (a : List ℕ) → OnTree (values keys leaves) a → N a
  pub macs : (a : List ℕ) → InLeaves keys leaves a → M a

value_length : (keys : ChipKeys) (o : Option Contents) → length (value_of keys o) ≡ 32
value_length keys None = refl
value_length keys (Some x) = length-leaf_mac keys x

pub values_hashes : (keys : ChipKeys) (leaves : ℕ → Option Contents) → AllHashes (values keys leaves)
unfolding AllHashes
values_hashes keys leaves i = value_length keys (leaves i)

-- ---- what an accepted leaf has

pub record Accepted (keys : ChipKeys) (tree_root : List ℕ) (label : ℕ) (aux : List (List (List ℕ))) (leaf : List ℕ) (x : Contents) : Type 0 where
  pub small : label < 16384
  pub checked : check_at keys leaf ≡ Ok x
  pub path : root_of label (mac_of leaf) aux ≡ tree_root

accepted_on : (keys : ChipKeys) (tree_root : List ℕ) (label : ℕ) (aux : List (List (List ℕ))) (leaf : List ℕ) (x : Contents) (r : Result Contents LeafFault)
    → label < 16384 → check_at keys leaf ≡ r → opened_on tree_root label aux leaf r ≡ Ok x → Accepted keys tree_root label aux leaf x
accepted_on keys tree_root label aux leaf x (Err f) lt c e = cc
accepted_on keys tree_root label aux leaf x (Ok y) lt c e =
    on_cond (λ r. r ≡ Ok x → Accepted keys tree_root label aux leaf x) (eqb y.label label)
    (cond (bytes_eq (root_of label (mac_of leaf) aux) tree_root) (Ok y) (Err NoPath)) (Err (NoLeaf (BadShape 1)))
    (λ _ q. on_cond (λ r. r ≡ Ok x → Accepted keys tree_root label aux leaf x) (bytes_eq (root_of label (mac_of leaf) aux) tree_root) (Ok y) (Err NoPath)
    (λ t q1. let same : y ≡ x = cc q1 in record { small = lt; checked = c ∙ ap Ok same; path = (bytes_eq-Decides (root_of label (mac_of leaf) aux) tree_root).0 t })
    (λ _ q1. cc) q)
    (λ _ q. cc) e

pub opened_has : (keys : ChipKeys) (tree_root : List ℕ) (label : ℕ) (aux : List (List (List ℕ))) (leaf : List ℕ) (x : Contents)
    → opened keys tree_root label aux leaf ≡ Ok x → Accepted keys tree_root label aux leaf x
unfolding opened
opened_has keys tree_root label aux leaf x e =
    on_cond (λ r. r ≡ Ok x → Accepted keys tree_root label aux leaf x) (ltb label 16384) (opened_on tree_root label aux leaf (check_at keys leaf)) (Err NoLabel)
    (λ t q. accepted_on keys tree_root label aux leaf x (check_at keys leaf) (ltb-true label 16384 t) refl q) (λ _ q. cc) e

-- ---- two leaves with one MAC

text_of_bytes : (keys : ChipKeys) (x y : Contents) → leaf_text keys x ≡ leaf_text keys y → leaf_bytes keys x ≡ leaf_bytes keys y
unfolding leaf_bytes leaf_mac
text_of_bytes keys x y e = ap (λ t. t ++ hmac keys.mac t) e

same_text : (keys : ChipKeys) (x y : Contents) → IsContents x → IsContents y → leaf_text keys x ≡ leaf_text keys y → x ≡ y
same_text keys x y hx hy e =
    let p : ◌≡◌ {A = Result Contents LeafFault} (Ok x) (Ok y) = sym (check_at-leaf_bytes keys x hx) ∙ ap (check_at keys) (text_of_bytes keys x y e) ∙ check_at-leaf_bytes keys y hy in
    cc p

-- the record is that of the leaf at the label, and its path is true
pub record Genuine (keys : ChipKeys) (t : ℕ → Option Contents) (label : ℕ) (aux : List (List (List ℕ))) (leaf : List ℕ) (x : Contents) : Type 0 where
  pub small : label < 16384
  pub stands : t label ≡ Some x
  pub bytes : leaf ≡ leaf_bytes keys x
  pub true_aux : aux ≡ aux_of (values keys t) label

module _ (N M : List ℕ → Type 0) (keys : ChipKeys) (apart : HasNoCollision N) (macs : HasNoMacCollision keys.mac M) where
  same_value : (a b : Option Contents) → ((x : Contents) → a ≡ Some x → IsContents x × M (leaf_text keys x)) → ((x : Contents) → b ≡ Some x → IsContents x × M (leaf_text keys x)) → value_of keys a ≡ value_of keys b → a ≡ b
  unfolding leaf_mac
  same_value None None fa fb e = refl
  same_value None (Some y) fa fb e = absurd (macs.used (leaf_text keys y) (fb y refl).1 (sym e))
  same_value (Some x) None fa fb e = absurd (macs.used (leaf_text keys x) (fa x refl).1 e)
  same_value (Some x) (Some y) fa fb e =
      let p = fa x refl in let q = fb y refl in
      ap Some (same_text keys x y p.0 q.0 (macs.apart (leaf_text keys x) (leaf_text keys y) p.1 q.1 e))

  -- no leaf has the value of an empty label
  pub none_of : (t : ℕ → Option Contents) (label : ℕ) → Covered N M keys t → no_hash ≡ values keys t label → t label ≡ None
  unfolding InLeaves
  none_of t label c e =
      sym (same_value None (t label) (λ x q. cc q) (λ x q. (c.leaf label x q, c.macs (leaf_text keys x) (label, (x, (q, refl))))) e)

  -- ledgers with one value at a label have one leaf there
  pub same_leaf : (t t' : ℕ → Option Contents) (label : ℕ) → Covered N M keys t → Covered N M keys t' → values keys t label ≡ values keys t' label → t label ≡ t' label
  unfolding InLeaves
  same_leaf t t' label c c' e =
      same_value (t label) (t' label)
      (λ x q. (c.leaf label x q, c.macs (leaf_text keys x) (label, (x, (q, refl)))))
      (λ x q. (c'.leaf label x q, c'.macs (leaf_text keys x) (label, (x, (q, refl))))) e

  stands_by : (t : ℕ → Option Contents) (label : ℕ) (leaf : List ℕ) (x : Contents) (o : Option Contents) → t label ≡ o → Covered N M keys t → check_at keys leaf ≡ Ok x → IsChecked keys leaf x → M (text_of leaf) → mac_of leaf ≡ value_of keys o
      → (t label ≡ Some x) × (leaf ≡ leaf_bytes keys x)
  unfolding leaf_mac leaf_bytes InLeaves
  stands_by t label leaf x None o c ch hm m e = absurd (macs.used (text_of leaf) m (sym hm.mac ∙ e))
  stands_by t label leaf x (Some y) o c ch hm m e =
      let text : text_of leaf ≡ leaf_text keys y = macs.apart (text_of leaf) (leaf_text keys y) m (c.macs (leaf_text keys y) (label, (y, (o, refl)))) (sym hm.mac ∙ e) in
      let whole : leaf ≡ leaf_bytes keys y = sym (take-append-drop 264 leaf) ∙ (λ i. text i ++ e i) in
      let q : ◌≡◌ {A = Result Contents LeafFault} (Ok x) (Ok y) = sym ch ∙ ap (check_at keys) whole ∙ check_at-leaf_bytes keys y (c.leaf label y o) in
      let same : y ≡ x = cc q in
      (o ∙ ap Some same, whole ∙ ap (leaf_bytes keys) same)

  pub genuine : (t : ℕ → Option Contents) (label : ℕ) (aux : List (List (List ℕ))) (leaf : List ℕ) (x : Contents) (tree_root : List ℕ)
      → Covered N M keys t → tree_root ≡ root (values keys t) → IsAux aux → ((a : List ℕ) → (root_of label (mac_of leaf) aux ≡ tree_root) × OnPath 0 label (mac_of leaf) aux a → N a) → ((a : List ℕ) → (root_of label (mac_of leaf) aux ≡ tree_root) × ((length leaf ≡ 296) × (a ≡ text_of leaf)) → M a)
      → opened keys tree_root label aux leaf ≡ Ok x → Genuine keys t label aux leaf x
  genuine t label aux leaf x tree_root c r ha path inputs e =
      let a = opened_has keys tree_root label aux leaf x e in
      let hm = check_at-is keys leaf x a.checked in
      let long : length (mac_of leaf) ≡ 32 = ap length hm.mac ∙ length-hmac keys.mac (text_of leaf) in
      let p = true_value N apart (values keys t) label (mac_of leaf) aux a.small (values_hashes keys t) long ha (λ b on. path b (a.path, on)) c.nodes (a.path ∙ r) in
      let s = stands_by t label leaf x (t label) refl c a.checked hm (inputs (text_of leaf) (a.path, (hm.long, refl))) p.0 in
      record { small = a.small; stands = s.0; bytes = s.1; true_aux = p.1 }
