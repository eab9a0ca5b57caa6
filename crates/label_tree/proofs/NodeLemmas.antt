-- The kept nodes are those of the tree, and a changed value leaves only the nodes above it to be renewed.
use Rattle.std.proofs.Common.{◌≡◌, ◌≢◌, ℕ, zero, suc, ◌+◌, ◌*◌, ◌/◌, ◌%◌, ◌<◌, ◌≤◌, inl, inr, Option, Some, None, List, [], ◌∷◌, length, take, refl, sym, ◌∙◌, ap, arith, get_or-set_same, get_or-set_other, ◌++◌, ◌-◌, eqb, cond, true, false, add-one, append_assoc, set}
use Rattle.std.specs.Prelude.{slice_set, bytes_eq}
use Rattle.std.proofs.lemmas.Bool.{lt-ltb, le-ltb, cases_eq, cases_lt}
use Rattle.std.proofs.lemmas.List.{get_or-take, take_more_set, length-take-le}
use Rattle.std.proofs.Math.ListN.{get_or-eq_default}
use Rattle.sha2.specs.Sha256.{sha256}
use Rattle.pw_path.specs.Tree.{node_input, node_at, children_at, root, others, siblings, aux_of, AgreeBut, no_hash}
use Rattle.pw_path.specs.Path.{root_of}
use Rattle.pw_path.proofs.TreeLemmas.{node_at_one_more, root_of_changed, set_value_other, set_value_same}
use Rattle.label_tree.specs.Values.{value_in, with_value, IsLeastFree, used_below}
use Rattle.label_tree.specs.Nodes.{level_of, four, IsNode, AreNodesBut, IsKept, rows_at, places_above}

-- ---- levels

-- the first 4,096 inner nodes are on level 1
level_1 : (k : ℕ) → k < 4096 → level_of k ≡ 1
level_1 k h = rw (lt-ltb k 4096 h) refl

-- the next 1,024 on level 2
level_2 : (k : ℕ) → 4096 ≤ k → k < 5120 → level_of k ≡ 2
level_2 k l h = rw (le-ltb k 4096 l, lt-ltb k 5120 h) refl

-- the next 256 on level 3
level_3 : (k : ℕ) → 5120 ≤ k → k < 5376 → level_of k ≡ 3
level_3 k l h = rw (le-ltb k 4096 (omega arith), le-ltb k 5120 l, lt-ltb k 5376 h) refl

-- the next 64 on level 4
level_4 : (k : ℕ) → 5376 ≤ k → k < 5440 → level_of k ≡ 4
level_4 k l h = rw (le-ltb k 4096 (omega arith), le-ltb k 5120 (omega arith), le-ltb k 5376 l, lt-ltb k 5440 h) refl

-- the next 16 on level 5
level_5 : (k : ℕ) → 5440 ≤ k → k < 5456 → level_of k ≡ 5
level_5 k l h = rw (le-ltb k 4096 (omega arith), le-ltb k 5120 (omega arith), le-ltb k 5376 (omega arith), le-ltb k 5440 l, lt-ltb k 5456 h) refl

-- the next 4 on level 6
level_6 : (k : ℕ) → 5456 ≤ k → k < 5460 → level_of k ≡ 6
level_6 k l h = rw (le-ltb k 4096 (omega arith), le-ltb k 5120 (omega arith), le-ltb k 5376 (omega arith), le-ltb k 5440 (omega arith), le-ltb k 5456 l, lt-ltb k 5460 h) refl

-- the last one is the root, on level 7
level_7 : (k : ℕ) → 5460 ≤ k → level_of k ≡ 7
level_7 k l = rw (le-ltb k 4096 (omega arith), le-ltb k 5120 (omega arith), le-ltb k 5376 (omega arith), le-ltb k 5440 (omega arith), le-ltb k 5456 (omega arith), le-ltb k 5460 l) refl

-- no inner node is on level 0
level_some : (k : ℕ) → 1 ≤ level_of k
level_some k =
    elim (cases_lt k 4096) [
      | inl a ↦ let e = level_1 k a in omega arith
      | inr a ↦ elim (cases_lt k 5120) [
        | inl b ↦ let e = level_2 k a b in omega arith
        | inr b ↦ elim (cases_lt k 5376) [
          | inl c ↦ let e = level_3 k b c in omega arith
          | inr c ↦ elim (cases_lt k 5440) [
            | inl d ↦ let e = level_4 k c d in omega arith
            | inr d ↦ elim (cases_lt k 5456) [
              | inl f ↦ let e = level_5 k d f in omega arith
              | inr f ↦ elim (cases_lt k 5460) [
                | inl g ↦ let e = level_6 k f g in omega arith
                | inr g ↦ let e = level_7 k g in omega arith
              ]
            ]
          ]
        ]
      ]
    ]

-- ---- a level's nodes stand one after another, from a place on

-- from this place on stand so many of a level's nodes
abbrev IsLevel : List (List ℕ) → (ℕ → List ℕ) → ℕ → ℕ → ℕ → Type 0
IsLevel nodes values first level count = (i : ℕ) → i < count → value_in nodes (first + i) ≡ node_at values level i

module _ (nodes : List (List ℕ)) (values : ℕ → List ℕ) where
  -- the four hashes below an inner node are its children
  four_children : (k0 level count i : ℕ) → IsLevel nodes values (4 * k0) level (4 * count) → i < count → four nodes (4 * (k0 + i)) ≡ children_at values level i
  four_children k0 level count i below lt =
      let at : (c : ℕ) → c < 4 → value_in nodes (4 * (k0 + i) + c) ≡ node_at values level (4 * i + c) =
      λ c h. let e : 4 * (k0 + i) + c ≡ 4 * k0 + (4 * i + c) = omega arith in rw e (below (4 * i + c) (omega arith)) in
      let e0 : value_in nodes (4 * (k0 + i)) ≡ node_at values level (4 * i) = let e : 4 * (k0 + i) ≡ 4 * k0 + 4 * i = omega arith in rw e (below (4 * i) (omega arith)) in
      λ j. e0 j ∷ at 1 (omega arith) j ∷ at 2 (omega arith) j ∷ at 3 (omega arith) j ∷ []

  -- where a level stands, the level above it stands behind
  level_next : ((k : ℕ) → k < 5461 → IsNode nodes k) → (k0 level count : ℕ) → k0 + count ≤ 5461 → ((i : ℕ) → i < count → level_of (k0 + i) ≡ suc level)
      → IsLevel nodes values (4 * k0) level (4 * count) → IsLevel nodes values (16384 + k0) (suc level) count
  unfolding node_at
  level_next kept k0 level count h levels below = λ i lt.
      let is = kept (k0 + i) (omega arith) in
      let e : 16384 + k0 + i ≡ 16384 + (k0 + i) = omega arith in
      rw e (is ∙ (λ j. sha256 (node_input (levels i lt j) (four_children k0 level count i below lt j))))

  -- where the rows above a level are its nodes' siblings, so are those of the level
  rows_next : (k0 level count n : ℕ) → IsLevel nodes values (4 * k0) level (4 * count)
      → ((i : ℕ) → i < count → rows_at nodes (16384 + k0 + i) n ≡ siblings values (suc level) i n)
      → (i : ℕ) → i < 4 * count → rows_at nodes (4 * k0 + i) (suc n) ≡ siblings values level i (suc n)
  unfolding rows_at siblings
  rows_next k0 level count n below above i lt =
      let q : (4 * k0 + i) / 4 ≡ k0 + i / 4 = omega arith in
      let r : (4 * k0 + i) % 4 ≡ i % 4 = omega arith in
      let cs = four_children k0 level count (i / 4) below (omega arith) in
      let a : 16384 + (k0 + i / 4) ≡ 16384 + k0 + i / 4 = omega arith in
      let rest = above (i / 4) (omega arith) in
      rw (q, r, a) (λ j. others (i % 4) (cs j) ∷ rest j)

-- ---- all levels

module _ (nodes : List (List ℕ)) (kept : (k : ℕ) → k < 5461 → IsNode nodes k) where
  -- the labels' values
  values : ℕ → List ℕ
  values = value_in (take 16384 nodes)

  -- level 0 are the labels' values
  at_0 : IsLevel nodes values 0 0 16384
  unfolding node_at values
  at_0 i lt = let e : 0 + i ≡ i = omega arith in rw e (sym (get_or-take 16384 nodes i no_hash lt))

  -- level 1 stands from place 16,384 on
  at_1 : IsLevel nodes values 16384 1 4096
  at_1 = level_next nodes values kept 0 0 4096 (omega arith) (λ i lt. level_1 (0 + i) (omega arith)) at_0

  -- level 2 from place 20,480 on
  at_2 : IsLevel nodes values 20480 2 1024
  at_2 = level_next nodes values kept 4096 1 1024 (omega arith) (λ i lt. level_2 (4096 + i) (omega arith) (omega arith)) at_1

  -- level 3 from place 21,504 on
  at_3 : IsLevel nodes values 21504 3 256
  at_3 = level_next nodes values kept 5120 2 256 (omega arith) (λ i lt. level_3 (5120 + i) (omega arith) (omega arith)) at_2

  -- level 4 from place 21,760 on
  at_4 : IsLevel nodes values 21760 4 64
  at_4 = level_next nodes values kept 5376 3 64 (omega arith) (λ i lt. level_4 (5376 + i) (omega arith) (omega arith)) at_3

  -- level 5 from place 21,824 on
  at_5 : IsLevel nodes values 21824 5 16
  at_5 = level_next nodes values kept 5440 4 16 (omega arith) (λ i lt. level_5 (5440 + i) (omega arith) (omega arith)) at_4

  -- level 6 from place 21,840 on
  at_6 : IsLevel nodes values 21840 6 4
  at_6 = level_next nodes values kept 5456 5 4 (omega arith) (λ i lt. level_6 (5456 + i) (omega arith) (omega arith)) at_5

  -- level 7 at place 21,844
  at_7 : IsLevel nodes values 21844 7 1
  at_7 = level_next nodes values kept 5460 6 1 (omega arith) (λ i lt. level_7 (5460 + i) (omega arith)) at_6

  -- the last node is the root
  pub root_kept : value_in nodes 21844 ≡ root (value_in (take 16384 nodes))
  unfolding values
  root_kept = at_7 0 (omega arith)

  -- above the root there is no row
  rows_0 : (i : ℕ) → i < 1 → rows_at nodes (21844 + i) 0 ≡ siblings values 7 i 0
  unfolding rows_at siblings
  rows_0 i lt = refl

  -- the kept rows are the label's siblings
  pub rows_kept : (label : ℕ) → label < 16384 → rows_at nodes label 7 ≡ aux_of (value_in (take 16384 nodes)) label
  unfolding values
  rows_kept label lt =
      let e : 4 * 0 + label ≡ label = omega arith in
      sym (ap (λ i. rows_at nodes i 7) e)
      ∙ rows_next nodes values 0 0 4096 6 at_0
      (rows_next nodes values 4096 1 1024 5 at_1
      (rows_next nodes values 5120 2 256 4 at_2
      (rows_next nodes values 5376 3 64 3 at_3
      (rows_next nodes values 5440 4 16 2 at_4
      (rows_next nodes values 5456 5 4 1 at_5
      (rows_next nodes values 5460 6 1 0 at_6 rows_0)))))) label lt
      ∙ refl

-- ---- one place changes

module _ (nodes : List (List ℕ)) (p : ℕ) (x : List ℕ) where
  -- a write changes no four hashes but those that have it
  four_stay : (k : ℕ) → k ≢ p / 4 → four (slice_set nodes p x) (4 * k) ≡ four nodes (4 * k)
  four_stay k ne =
      let at : (c : ℕ) → c < 4 → value_in (slice_set nodes p x) (4 * k + c) ≡ value_in nodes (4 * k + c) = λ c h. get_or-set_other nodes p (4 * k + c) x no_hash (λ e. ne (omega arith)) in
      let e0 : value_in (slice_set nodes p x) (4 * k) ≡ value_in nodes (4 * k) = get_or-set_other nodes p (4 * k) x no_hash (λ e. ne (omega arith)) in
      λ j. e0 j ∷ at 1 (omega arith) j ∷ at 2 (omega arith) j ∷ at 3 (omega arith) j ∷ []

  -- a node that isn't there and not right above stays one
  node_stays : (k : ℕ) → 16384 + k ≢ p → k ≢ p / 4 → IsNode nodes k → IsNode (slice_set nodes p x) k
  node_stays k away ne is =
      get_or-set_other nodes p (16384 + k) x no_hash away ∙ is
      ∙ sym (ap (λ cs. sha256 (node_input (level_of k) cs)) (four_stay k ne))

-- a label's new value leaves each node but the one right above it
pub leaf_changed : (nodes : List (List ℕ)) (label : ℕ) (x : List ℕ) → label < 16384 → IsKept nodes → AreNodesBut (label / 4) (slice_set nodes label x)
leaf_changed nodes label x lt kept = λ k h ne. node_stays nodes label x k (λ e. omega arith) ne (kept.each k h)

-- a renewed node is one, and leaves each but the one right above it
pub node_renewed : (nodes : List (List ℕ)) (k : ℕ) (x : List ℕ) → k < 5461 → length nodes ≡ 21845 → AreNodesBut k nodes
    → x ≡ sha256 (node_input (level_of k) (four nodes (4 * k))) → AreNodesBut ((16384 + k) / 4) (slice_set nodes (16384 + k) x)
node_renewed nodes k x lt size but is = λ j h ne.
    elim (cases_eq j k) [
      | inl e ↦
          rw e (get_or-set_same nodes (16384 + k) x no_hash (omega arith) ∙ is
          ∙ sym (ap (λ cs. sha256 (node_input (level_of k) cs)) (four_stay nodes (16384 + k) x k (λ q. ne (e ∙ q)))))
      | inr away ↦ node_stays nodes (16384 + k) x j (λ q. away (omega arith)) ne (but j h away)
    ]

-- ---- the values

-- a value of the whole list is one of its front
pub value_kept : (nodes : List (List ℕ)) (label : ℕ) → label < 16384 → value_in (take 16384 nodes) label ≡ value_in nodes label
value_kept nodes label lt = get_or-take 16384 nodes label no_hash lt

-- a number past the labels has no value
past_end : (nodes : List (List ℕ)) (i : ℕ) → length nodes ≡ 21845 → 16384 ≤ i → value_in (take 16384 nodes) i ≡ no_hash
past_end nodes i size h =
    let l : length (take 16384 nodes) ≡ 16384 = length-take-le 16384 nodes (omega arith) in
    get_or-eq_default (take 16384 nodes) no_hash (omega arith)

-- where each label has its new value, the whole is the old one with that value
pub changed_values : (old new : List (List ℕ)) (label : ℕ) (x : List ℕ) → label < 16384 → length old ≡ 21845 → length new ≡ 21845
    → ((i : ℕ) → i < 16384 → value_in new i ≡ with_value (value_in old) label x i)
    → value_in (take 16384 new) ≡ with_value (value_in (take 16384 old)) label x
changed_values old new label x lt so sn each =
    let at : (i : ℕ) → value_in (take 16384 new) i ≡ with_value (value_in (take 16384 old)) label x i =
    λ i. elim (cases_lt i 16384) [
      | inl h ↦ value_kept new i h ∙ each i h ∙ sym (ap (λ v. cond (eqb i label) x v) (value_kept old i h))
      | inr h ↦ past_end new i sn h ∙ sym (past_end old i so h) ∙ sym (set_value_other (value_in (take 16384 old)) label x i (λ e. omega arith))
    ] in
    λ j i. at i j

-- the root with another value at a label is that of its path
pub root_with : (values : ℕ → List ℕ) (label : ℕ) (hash : List ℕ) → label < 16384 → root_of label hash (aux_of values label) ≡ root (with_value values label hash)
unfolding AgreeBut
root_with values label hash lt =
    root_of_changed values (with_value values label hash) label hash lt (λ j ne. set_value_other values label hash j ne) (set_value_same values label hash)

-- where no label has a value, the whole is the empty one
pub empty_values : (nodes : List (List ℕ)) → length nodes ≡ 21845 → ((i : ℕ) → i < 16384 → value_in nodes i ≡ no_hash) → value_in (take 16384 nodes) ≡ (λ _. no_hash)
empty_values nodes size each =
    let at : (i : ℕ) → value_in (take 16384 nodes) i ≡ no_hash =
    λ i. elim (cases_lt i 16384) [
      | inl h ↦ value_kept nodes i h ∙ each i h
      | inr h ↦ past_end nodes i size h
    ] in
    λ j i. at i j

-- ---- the way up, place by place

-- a place with levels above it isn't the last
pub below_next : (at n : ℕ) → at + places_above (suc n) ≤ 21844 → (at < 21844) × (16384 + at / 4 + places_above n ≤ 21844)
unfolding places_above
below_next at n h = (omega arith, omega arith)

-- above a label there are seven levels
pub below_start : (at : ℕ) → at < 16384 → at + places_above 7 ≤ 21844
unfolding places_above
below_start at h = omega arith

-- one more row
pub rows_more : (nodes : List (List ℕ)) (rows : List (List (List ℕ))) (at level n : ℕ) (row : List (List ℕ)) → level < length rows → row ≡ others (at % 4) (four nodes (4 * (at / 4)))
    → take (level + 1) (set rows level row) ++ rows_at nodes (16384 + at / 4) n ≡ take level rows ++ rows_at nodes at (suc n)
unfolding rows_at
rows_more nodes rows at level n row h e =
    ap (λ front. front ++ rows_at nodes (16384 + at / 4) n) (take_more_set rows level row h)
    ∙ append_assoc (take level rows) (row ∷ []) (rows_at nodes (16384 + at / 4) n)
    ∙ ap (λ r. take level rows ++ r ∷ rows_at nodes (16384 + at / 4) n) e

-- no levels have no rows
pub rows_none : (nodes : List (List ℕ)) (at : ℕ) → rows_at nodes at 0 ≡ []
unfolding rows_at
rows_none nodes at = refl

-- ---- the empty tree

-- the levels of a node's children are one below its own
level_below : (k j : ℕ) → k < 5461 → 16384 ≤ 4 * k → 4 * k ≤ 16384 + j → 16384 + j < 4 * k + 4 → level_of k ≡ suc (level_of j)
level_below k j lt h l r =
    elim (cases_lt j 4096) [
      | inl a ↦ level_2 k (omega arith) (omega arith) ∙ ap suc (sym (level_1 j a))
      | inr a ↦ elim (cases_lt j 5120) [
        | inl b ↦ level_3 k (omega arith) (omega arith) ∙ ap suc (sym (level_2 j a b))
        | inr b ↦ elim (cases_lt j 5376) [
          | inl c ↦ level_4 k (omega arith) (omega arith) ∙ ap suc (sym (level_3 j b c))
          | inr c ↦ elim (cases_lt j 5440) [
            | inl d ↦ level_5 k (omega arith) (omega arith) ∙ ap suc (sym (level_4 j c d))
            | inr d ↦ elim (cases_lt j 5456) [
              | inl e ↦ level_6 k (omega arith) (omega arith) ∙ ap suc (sym (level_5 j d e))
              | inr e ↦ level_7 k (omega arith) ∙ ap suc (sym (level_6 j e (omega arith)))
            ]
          ]
        ]
      ]
    ]

module _ (nodes : List (List ℕ)) (leaves : (i : ℕ) → i < 16384 → value_in nodes i ≡ no_hash)
    (inner : (j : ℕ) → j < 5461 → value_in nodes (16384 + j) ≡ node_at (λ _. no_hash) (level_of j) 0) where
  -- the node of a level over labels that are all empty
  empty_node : ℕ → List ℕ
  empty_node level = node_at (λ _. no_hash) level 0

  -- a child of inner node k
  child_empty : (k c level : ℕ) → k < 5461 → c < 4 → level_of k ≡ suc level → value_in nodes (4 * k + c) ≡ node_at (λ _. no_hash) level 0
  unfolding node_at
  child_empty k c level lt h is =
      elim (cases_lt (4 * k) 16384) [
        | inl low ↦ let e : level ≡ 0 = let l = level_1 k (omega arith) in omega arith in rw e (leaves (4 * k + c) (omega arith))
        | inr high ↦
            let j = 4 * k + c - 16384 in
            let p : 4 * k + c ≡ 16384 + j = omega arith in
            let b : level_of k ≡ suc (level_of j) = level_below k j lt high (omega arith) (omega arith) in
            let e : level ≡ level_of j = omega arith in
            rw (p, e) (inner j (omega arith))
      ]

  -- where each place has the empty node of its level, each inner node is one
  pub empty_nodes_kept : (k : ℕ) → k < 5461 → IsNode nodes k
  empty_nodes_kept k lt = at_level (level_of k) refl
    where
      at_level : (level : ℕ) → level_of k ≡ level → IsNode nodes k
      at_level zero e = let s = level_some k in absurd (omega arith)
      at_level (suc level) e =
          let c : (i : ℕ) → i < 4 → value_in nodes (4 * k + i) ≡ node_at (λ _. no_hash) level 0 = λ i h. child_empty k i level lt h e in
          let c0 : value_in nodes (4 * k) ≡ node_at (λ _. no_hash) level 0 = let z : 4 * k ≡ 4 * k + 0 = omega arith in ap (value_in nodes) z ∙ c 0 (omega arith) in
          inner k lt ∙ ap (λ l. node_at (λ _. no_hash) l 0) e ∙ node_at_one_more no_hash level
          ∙ sym (λ p. sha256 (node_input (e p) (c0 p ∷ c 1 (omega arith) p ∷ c 2 (omega arith) p ∷ c 3 (omega arith) p ∷ [])))

-- the least free label of the whole list is that of its front
pub least_kept : (nodes : List (List ℕ)) (o : Option ℕ) → IsLeastFree (value_in nodes) o → IsLeastFree (value_in (take 16384 nodes)) o
least_kept nodes (Some label) h = (h.0, value_kept nodes label h.0 ∙ h.1, λ i lt e. h.2 i lt (let l : i < 16384 = let s = h.0 in omega arith in sym (value_kept nodes i l) ∙ e))
least_kept nodes None h = λ i lt e. h i lt (sym (value_kept nodes i lt) ∙ e)

-- ---- used labels

-- below 0 no label is used
pub used_none : (nodes : List (List ℕ)) → used_below (value_in nodes) 0 ≡ 0
unfolding used_below
used_none nodes = refl

-- one more label, which isn't used
pub used_stays : (nodes : List (List ℕ)) (n count : ℕ) → count ≡ used_below (value_in nodes) n → bytes_eq (value_in nodes n) no_hash ≡ true → count ≡ used_below (value_in nodes) (n + 1)
unfolding used_below
used_stays nodes n count is free = rw (add-one, free) is

-- one more label, which is used
pub used_grows : (nodes : List (List ℕ)) (n count : ℕ) → count ≡ used_below (value_in nodes) n → bytes_eq (value_in nodes n) no_hash ≡ false → count + 1 ≡ used_below (value_in nodes) (n + 1)
unfolding used_below
used_grows nodes n count is used = rw (add-one n, used, add-one count) (ap suc is)

-- the used labels of the front are those of the whole list
pub used_kept : (nodes : List (List ℕ)) (n : ℕ) → n ≤ 16384 → used_below (value_in (take 16384 nodes)) n ≡ used_below (value_in nodes) n
unfolding used_below
used_kept nodes zero h = refl
used_kept nodes (suc n) h =
    let v = value_kept nodes n (omega arith) in
    let u = used_kept nodes n (omega arith) in
    λ i. cond (bytes_eq (v i) no_hash) (u i) (suc (u i))
