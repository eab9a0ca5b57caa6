-- What opening a presented leaf comes to.
use Rattle.std.proofs.Common.{◌≡◌, ◌≢◌, ℕ, ◌<◌, ◌≤◌, ◌^◌, true, false, eqb, ltb, leb, ◌&&◌, ◌||◌, Option, Some, None, Result, Ok, Err, List, length, refl, sym, ◌∙◌, ap, arith}
use Rattle.std.specs.Prelude.{bytes_eq}
use Rattle.std.proofs.lemmas.Bool.{lt-ltb, le-ltb, eq-eqb, ne_eqb, or_parts, leb-false, ltb-false}
use Rattle.std.proofs.lemmas.List.{drop_at, length-append}
use Rattle.pw_path.specs.Path.{root_of}
use Rattle.pw_types.specs.Schedule.{limit_of}
use Rattle.pw_leaf.specs.declared.keys.ChipKeys.{ChipKeys}
use Rattle.pw_leaf.specs.declared.leaf.Leaf.{Leaf}
use Rattle.pw_leaf.specs.declared.fault.LeafFault.{LeafFault}
use Rattle.pw_leaf.specs.declared.fault.LeafFault.TheVariants.{BadShape}
use Rattle.pw_leaf.specs.Contents.{Contents, leaf_of}
use Rattle.pw_leaf.specs.LeafBytes.{leaf_bytes, leaf_mac, leaf_text}
use Rattle.pw_leaf.specs.Reading.{label_in, count_in, pairs_in, wrong_in, last_in, mac_of, has_schedule, shape_fault, check_at, with_mac, leaf_at}
use Rattle.pw_leaf.proofs.Cases.{on_cond}
use Rattle.pw_leaf.proofs.ReadLemmas.{check_at-is}
use Rattle.pw_leaf.proofs.RecordLemmas.{length-leaf_mac}
use Rattle.pw_chip.specs.declared.open.Refusal.TheVariants.{NoLabel, NoLeaf, NoPath}
use Rattle.pw_chip.specs.Step.{opened, opened_on}

-- ---- what a record that is read has

moment_by : (bytes : List ℕ) → shape_fault bytes ≡ None → (last_in bytes).at < 2 ^ 40
unfolding shape_fault
moment_by bytes e =
    let P : Option ℕ → Type 0 = λ o. o ≡ None → (last_in bytes).at < 2 ^ 40 in
    on_cond P (leb 16384 (label_in bytes)) (Some 1) _ (λ _ q. cc q)
    (λ _. on_cond P (eqb (count_in bytes) 0 || ltb 16 (count_in bytes)) (Some 3) _ (λ _ q. cc q)
    (λ _. on_cond P (has_schedule bytes) _ (Some 4)
    (λ _. on_cond P (ltb (limit_of (pairs_in bytes)) (wrong_in bytes)) (Some 132) _ (λ _ q. cc q)
    (λ _. on_cond P (eqb (wrong_in bytes) 0 && ltb 0 (last_in bytes).boot) (Some 136) _ (λ _ q. cc q)
    (λ _. on_cond P (leb (2 ^ 40) (last_in bytes).at || (eqb (wrong_in bytes) 0 && ltb 0 (last_in bytes).at)) (Some 144) None (λ _ q. cc q)
    (λ t _. let parts = or_parts (leb (2 ^ 40) (last_in bytes).at) (eqb (wrong_in bytes) 0 && ltb 0 (last_in bytes).at) t in leb-false (2 ^ 40) (last_in bytes).at parts.0))))
    (λ _ q. cc q))) e

pub moment_below : (keys : ChipKeys) (bytes : List ℕ) (x : Contents) → check_at keys bytes ≡ Ok x → x.last.at < 2 ^ 40
moment_below keys bytes x e = let is = check_at-is keys bytes x e in rw is.same (moment_by bytes is.right)

count_by : (bytes : List ℕ) → shape_fault bytes ≡ None → wrong_in bytes ≤ limit_of (pairs_in bytes)
unfolding shape_fault
count_by bytes e =
    let P : Option ℕ → Type 0 = λ o. o ≡ None → wrong_in bytes ≤ limit_of (pairs_in bytes) in
    on_cond P (leb 16384 (label_in bytes)) (Some 1) _ (λ _ q. cc q)
    (λ _. on_cond P (eqb (count_in bytes) 0 || ltb 16 (count_in bytes)) (Some 3) _ (λ _ q. cc q)
    (λ _. on_cond P (has_schedule bytes) _ (Some 4)
    (λ _. on_cond P (ltb (limit_of (pairs_in bytes)) (wrong_in bytes)) (Some 132) _ (λ _ q. cc q) (λ t _. ltb-false (limit_of (pairs_in bytes)) (wrong_in bytes) t))
    (λ _ q. cc q))) e

pub count_within : (keys : ChipKeys) (bytes : List ℕ) (x : Contents) → check_at keys bytes ≡ Ok x → x.wrong ≤ limit_of x.schedule
count_within keys bytes x e = let is = check_at-is keys bytes x e in rw is.same (count_by bytes is.right)

pub length_read : (keys : ChipKeys) (bytes : List ℕ) (x : Contents) → check_at keys bytes ≡ Ok x → length bytes ≡ 296
length_read keys bytes x e = let is = check_at-is keys bytes x e in is.long

mac_by : (bytes : List ℕ) (leaf : Leaf) (r : Result Contents LeafFault) → with_mac bytes r ≡ Ok leaf → leaf.mac ≡ mac_of bytes
mac_by bytes leaf (Err fault) e = cc e
mac_by bytes leaf (Ok x) e = let same : leaf_of x (mac_of bytes) ≡ leaf = cc e in sym (ap (λ (l : Leaf). l.mac) same)

pub mac_read : (keys : ChipKeys) (bytes : List ℕ) (leaf : Leaf) → leaf_at keys bytes ≡ Ok leaf → leaf.mac ≡ mac_of bytes
unfolding leaf_at
mac_read keys bytes leaf e = mac_by bytes leaf (check_at keys bytes) e

-- the MAC of a record of 296 bytes
pub mac_of-leaf_bytes : (keys : ChipKeys) (x : Contents) → length (leaf_bytes keys x) ≡ 296 → mac_of (leaf_bytes keys x) ≡ leaf_mac keys x
unfolding leaf_bytes
mac_of-leaf_bytes keys x long =
    let l = length-leaf_mac keys x in
    let e = length-append (leaf_text keys x) (leaf_mac keys x) in
    drop_at (leaf_text keys x) (leaf_mac keys x) 264 (omega arith)

-- ---- the answers of `open`

module _ (keys : ChipKeys) (tree_root : List ℕ) (number : ℕ) (aux : List (List (List ℕ))) (leaf : List ℕ) where
  pub opened-no_label : 16384 ≤ number → opened keys tree_root number aux leaf ≡ Err NoLabel
  unfolding opened
  opened-no_label h = rw (le-ltb number 16384 h) refl

  pub opened-fault : (fault : LeafFault) → number < 16384 → check_at keys leaf ≡ Err fault → opened keys tree_root number aux leaf ≡ Err (NoLeaf fault)
  unfolding opened
  opened-fault fault h e = rw (lt-ltb number 16384 h) (ap (opened_on tree_root number aux leaf) e)

  pub opened-foreign : (x : Contents) → number < 16384 → check_at keys leaf ≡ Ok x → x.label ≢ number → opened keys tree_root number aux leaf ≡ Err (NoLeaf (BadShape 1))
  unfolding opened
  opened-foreign x h e ne = rw (lt-ltb number 16384 h) (ap (opened_on tree_root number aux leaf) e ∙ rw (ne_eqb x.label number ne) refl)

  pub opened-no_path : (x : Contents) → number < 16384 → check_at keys leaf ≡ Ok x → x.label ≡ number → bytes_eq (root_of number (mac_of leaf) aux) tree_root ≡ false
      → opened keys tree_root number aux leaf ≡ Err NoPath
  unfolding opened
  opened-no_path x h e l t = rw (lt-ltb number 16384 h) (ap (opened_on tree_root number aux leaf) e ∙ rw (eq-eqb x.label number l) (rw t refl))

  pub opened-ok : (x : Contents) → number < 16384 → check_at keys leaf ≡ Ok x → x.label ≡ number → bytes_eq (root_of number (mac_of leaf) aux) tree_root ≡ true
      → opened keys tree_root number aux leaf ≡ Ok x
  unfolding opened
  opened-ok x h e l t = rw (lt-ltb number 16384 h) (ap (opened_on tree_root number aux leaf) e ∙ rw (eq-eqb x.label number l) (rw t refl))
