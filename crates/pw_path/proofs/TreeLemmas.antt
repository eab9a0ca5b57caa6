-- The whole tree: true siblings give its root, one root has one tree, and what one changed label changes.
use Rattle.std.proofs.Common.{cond, eqb, ◌≡◌, ◌≢◌, ℕ, zero, suc, ◌+◌, ◌*◌, ◌/◌, ◌%◌, ◌<◌, List, [], ◌∷◌, length, take, drop, refl, sym, ◌∙◌, ap, arith, eq-eqb}
use Rattle.std.proofs.lemmas.Bool.{ne_eqb}
use Rattle.sha2.specs.Sha256.{sha256}
use Rattle.sha2.proofs.Facts256.{length-sha256}
use Rattle.pw_path.specs.Tree.{node_input, node_at, children_at, root, others, siblings, aux_of, AgreeBut, AllHashes}
use Rattle.pw_path.specs.Path.{put_at, climb, root_of, OnPath, OnTree, AreHashes, IsRow, AreRows, IsAux, HasNoCollision}
use Rattle.pw_path.proofs.PathLemmas.{climb_same, AreHashes-append, AreHashes-take, AreHashes-drop}

-- ---- true siblings give the node above

-- the level that is n levels up, and the index there of the node above node i
unfoldable pub level_up : ℕ → ℕ → ℕ
level_up level zero = level
level_up level (suc n) = level_up (suc level) n

unfoldable pub index_up : ℕ → ℕ → ℕ
index_up zero i = i
index_up (suc n) i = index_up n (i / 4)

put_back : (t : ℕ → List ℕ) (level j k i : ℕ) → i ≡ 4 * j + k → k < 4 → put_at k (node_at t level i) (others k (children_at t level j)) ≡ children_at t level j
put_back t level j zero i e h = let e0 : i ≡ 4 * j = omega arith in rw e0 refl
put_back t level j (suc zero) i e h = rw e refl
put_back t level j (suc (suc zero)) i e h = rw e refl
put_back t level j (suc (suc (suc zero))) i e h = rw e refl
put_back t level j (suc (suc (suc (suc k)))) i e h = absurd (omega arith)

put_back_at : (t : ℕ → List ℕ) (level i : ℕ) → put_at (i % 4) (node_at t level i) (others (i % 4) (children_at t level (i / 4))) ≡ children_at t level (i / 4)
put_back_at t level i = put_back t level (i / 4) (i % 4) i (omega arith) (omega arith)

pub sha256-children : (t : ℕ → List ℕ) (level i : ℕ) → sha256 (node_input (suc level) (children_at t level i)) ≡ node_at t (suc level) i
unfolding node_at
sha256-children t level i = refl

climb_true : (t : ℕ → List ℕ) (n level i : ℕ) → climb level i (node_at t level i) (siblings t level i n) ≡ node_at t (level_up level n) (index_up n i)
unfolding climb siblings level_up index_up
climb_true t zero level i = refl
climb_true t (suc n) level i =
    let here = ap (λ cs. sha256 (node_input (suc level) cs)) (put_back_at t level i) ∙ sha256-children t level (i / 4) in
    ap (λ c. climb (suc level) (i / 4) c (siblings t (suc level) (i / 4) n)) here ∙ climb_true t n (suc level) (i / 4)

index_up_seven : (label : ℕ) → label < 16384 → index_up 7 label ≡ 0
unfolding index_up
index_up_seven label h = omega arith

-- a label's value with its true siblings gives the root
pub root_of_true : (t : ℕ → List ℕ) (label : ℕ) → label < 16384 → root_of label (t label) (aux_of t label) ≡ root t
unfolding node_at level_up
root_of_true t label h = climb_true t 7 0 label ∙ ap (node_at t 7) (index_up_seven label h)

-- ---- shapes of the true siblings

pub length-node_at : (t : ℕ → List ℕ) → AllHashes t → (level i : ℕ) → length (node_at t level i) ≡ 32
unfolding node_at AllHashes
length-node_at t h zero i = h i
length-node_at t h (suc level) i = length-sha256 (node_input (suc level) (children_at t level i))

AreHashes-children_at : (t : ℕ → List ℕ) → AllHashes t → (level i : ℕ) → AreHashes (children_at t level i)
unfolding AreHashes
AreHashes-children_at t h level i =
    (length-node_at t h level (4 * i), (length-node_at t h level (4 * i + 1), (length-node_at t h level (4 * i + 2), (length-node_at t h level (4 * i + 3), tt))))

length-others : (k : ℕ) (cs : List (List ℕ)) → k < length cs → suc (length (others k cs)) ≡ length cs
length-others k [] h = absurd (omega arith)
length-others zero (c ∷ cs) h = refl
length-others (suc k) (c ∷ cs) h = ap suc (length-others k cs (omega arith))

IsRow-others : (t : ℕ → List ℕ) → AllHashes t → (level i k : ℕ) → k < 4 → IsRow (others k (children_at t level i))
IsRow-others t h level i k lt = record {
  count = let e : suc (length (others k (children_at t level i))) ≡ 4 = length-others k (children_at t level i) lt in omega arith;
  hashes =
      let all = AreHashes-children_at t h level i in
      AreHashes-append (take k (children_at t level i)) (drop (suc k) (children_at t level i))
      (AreHashes-take k (children_at t level i) all) (AreHashes-drop (suc k) (children_at t level i) all);
}

AreRows-siblings : (t : ℕ → List ℕ) → AllHashes t → (n level i : ℕ) → AreRows (siblings t level i n)
unfolding siblings AreRows
AreRows-siblings t h zero level i = tt
AreRows-siblings t h (suc n) level i = (IsRow-others t h level (i / 4) (i % 4) (omega arith), AreRows-siblings t h n (suc level) (i / 4))

length-siblings : (t : ℕ → List ℕ) (n level i : ℕ) → length (siblings t level i n) ≡ n
unfolding siblings
length-siblings t zero level i = refl
length-siblings t (suc n) level i = ap suc (length-siblings t n (suc level) (i / 4))

pub IsAux-aux_of : (t : ℕ → List ℕ) (label : ℕ) → AllHashes t → IsAux (aux_of t label)
IsAux-aux_of t label h = record { count = length-siblings t 7 0 label; rows = AreRows-siblings t h 7 0 label }

-- ---- a path to the root of a tree is the true one

pub true_value : (N : List ℕ → Type 0) → HasNoCollision N → (t : ℕ → List ℕ) (label : ℕ) (x : List ℕ) (aux : List (List (List ℕ)))
    → label < 16384 → AllHashes t → length x ≡ 32 → IsAux aux
    → ((a : List ℕ) → OnPath 0 label x aux a → N a) → ((a : List ℕ) → OnTree t a → N a)
    → root_of label x aux ≡ root t → (x ≡ t label) × (aux ≡ aux_of t label)
unfolding AllHashes
true_value N apart t label x aux lt ht hx ha path tree e =
    let own = IsAux-aux_of t label ht in
    climb_same N apart aux (aux_of t label) 0 label x (t label) hx (ht label) ha.rows own.rows
    (ha.count ∙ sym own.count) path (λ a on. tree a (label, (lt, on))) (e ∙ sym (root_of_true t label lt))

-- one root, one tree
pub one_tree : (N : List ℕ → Type 0) → HasNoCollision N → (t t' : ℕ → List ℕ) → AllHashes t → AllHashes t'
    → ((a : List ℕ) → OnTree t a → N a) → ((a : List ℕ) → OnTree t' a → N a)
    → root t ≡ root t' → (label : ℕ) → label < 16384 → t label ≡ t' label
unfolding AllHashes
one_tree N apart t t' ht ht' it it' e label lt =
    let own = IsAux-aux_of t label ht in
    let path = true_value N apart t' label (t label) (aux_of t label) lt ht' (ht label) own
    (λ a on. it a (label, (lt, on))) it' (root_of_true t label lt ∙ e) in
    path.0

-- ---- one label changes

-- the index at a level of the node above a label
unfoldable pub index_over : ℕ → ℕ → ℕ
index_over zero label = label
index_over (suc level) label = index_over level label / 4

-- a node that isn't above the label stays
node_apart : (t t' : ℕ → List ℕ) (label : ℕ) → AgreeBut label t t' → (level j : ℕ) → j ≢ index_over level label → node_at t' level j ≡ node_at t level j
unfolding AgreeBut index_over node_at
node_apart t t' label h zero j ne = h j ne
node_apart t t' label h (suc level) j ne =
    let at : (k : ℕ) → k < 4 → node_at t' level (4 * j + k) ≡ node_at t level (4 * j + k) = λ k lt. node_apart t t' label h level (4 * j + k) (λ e. ne (omega arith)) in
    let e0 : node_at t' level (4 * j) ≡ node_at t level (4 * j) = node_apart t t' label h level (4 * j) (λ e. ne (omega arith)) in
    λ i. sha256 (node_input (suc level) (e0 i ∷ at 1 (omega arith) i ∷ at 2 (omega arith) i ∷ at 3 (omega arith) i ∷ []))

others_same : (t t' : ℕ → List ℕ) (level j k i : ℕ) → i ≡ 4 * j + k → k < 4 → ((m : ℕ) → m ≢ i → node_at t' level m ≡ node_at t level m)
    → others k (children_at t' level j) ≡ others k (children_at t level j)
others_same t t' level j zero i e h f =
    let c1 = f (4 * j + 1) (λ q. omega arith) in let c2 = f (4 * j + 2) (λ q. omega arith) in let c3 = f (4 * j + 3) (λ q. omega arith) in
    λ p. c1 p ∷ c2 p ∷ c3 p ∷ []
others_same t t' level j (suc zero) i e h f =
    let c0 = f (4 * j) (λ q. omega arith) in let c2 = f (4 * j + 2) (λ q. omega arith) in let c3 = f (4 * j + 3) (λ q. omega arith) in
    λ p. c0 p ∷ c2 p ∷ c3 p ∷ []
others_same t t' level j (suc (suc zero)) i e h f =
    let c0 = f (4 * j) (λ q. omega arith) in let c1 = f (4 * j + 1) (λ q. omega arith) in let c3 = f (4 * j + 3) (λ q. omega arith) in
    λ p. c0 p ∷ c1 p ∷ c3 p ∷ []
others_same t t' level j (suc (suc (suc zero))) i e h f =
    let c0 = f (4 * j) (λ q. omega arith) in let c1 = f (4 * j + 1) (λ q. omega arith) in let c2 = f (4 * j + 2) (λ q. omega arith) in
    λ p. c0 p ∷ c1 p ∷ c2 p ∷ []
others_same t t' level j (suc (suc (suc (suc k)))) i e h f = absurd (omega arith)

siblings_same : (t t' : ℕ → List ℕ) (label : ℕ) → AgreeBut label t t' → (n level i : ℕ) → i ≡ index_over level label → siblings t' level i n ≡ siblings t level i n
unfolding siblings index_over
siblings_same t t' label h zero level i e = refl
siblings_same t t' label h (suc n) level i e =
    let row = others_same t t' level (i / 4) (i % 4) i (omega arith) (omega arith) (λ m ne. node_apart t t' label h level m (λ q. ne (q ∙ sym e))) in
    let rest = siblings_same t t' label h n (suc level) (i / 4) (ap (λ a. a / 4) e) in
    λ p. row p ∷ rest p

-- a label's siblings don't depend on its own value
pub aux_of_same : (t t' : ℕ → List ℕ) (label : ℕ) → AgreeBut label t t' → aux_of t' label ≡ aux_of t label
unfolding index_over
aux_of_same t t' label agree = siblings_same t t' label agree 7 0 label refl

-- a changed label: its new value with the siblings as they were gives the new root
pub root_of_changed : (t t' : ℕ → List ℕ) (label : ℕ) (y : List ℕ) → label < 16384 → AgreeBut label t t' → t' label ≡ y → root_of label y (aux_of t label) ≡ root t'
root_of_changed t t' label y lt agree e = rw (← e) (rw (← aux_of_same t t' label agree) (root_of_true t' label lt))

-- ---- values with one label's set

pub set_value_other : {A : Type 0} (t : ℕ → A) (label : ℕ) (y : A) (j : ℕ) → j ≢ label → cond (eqb j label) y (t j) ≡ t j
set_value_other t label y j ne = rw (ne_eqb j label ne) refl

pub set_value_same : {A : Type 0} (t : ℕ → A) (label : ℕ) (y : A) → cond (eqb label label) y (t label) ≡ y
set_value_same t label y = rw (eq-eqb label label refl) refl

-- ---- the empty tree

-- over one value everywhere, the nodes of a level are one
node_at_one : (v : List ℕ) (level i : ℕ) → node_at (λ _. v) level i ≡ node_at (λ _. v) level 0
unfolding node_at
node_at_one v zero i = refl
node_at_one v (suc level) i =
    let e : (j : ℕ) → node_at (λ _. v) level j ≡ node_at (λ _. v) level 0 = node_at_one v level in
    ap (λ cs. sha256 (node_input (suc level) cs))
    ((λ p. e (4 * i) p ∷ e (4 * i + 1) p ∷ e (4 * i + 2) p ∷ e (4 * i + 3) p ∷ [])
    ∙ sym (λ p. e (4 * 0) p ∷ e (4 * 0 + 1) p ∷ e (4 * 0 + 2) p ∷ e (4 * 0 + 3) p ∷ []))

-- the next level's node hashes four of them
pub node_at_one_more : (v : List ℕ) (level : ℕ)
    → node_at (λ _. v) (suc level) 0 ≡ sha256 (node_input (suc level) (put_at 0 (node_at (λ _. v) level 0) (node_at (λ _. v) level 0 ∷ node_at (λ _. v) level 0 ∷ node_at (λ _. v) level 0 ∷ [])))
unfolding node_at
node_at_one_more v level =
    let e : (j : ℕ) → node_at (λ _. v) level j ≡ node_at (λ _. v) level 0 = node_at_one v level in
    ap (λ cs. sha256 (node_input (suc level) cs)) (λ p. e (4 * 0) p ∷ e (4 * 0 + 1) p ∷ e (4 * 0 + 2) p ∷ e (4 * 0 + 3) p ∷ [])
