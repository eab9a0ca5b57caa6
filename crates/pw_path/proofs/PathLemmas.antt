-- One path: two ways up to one root are one, and the way up level by level.
use Rattle.std.proofs.Common.{drop-cons, get_or, ◌≡◌, ℕ, zero, suc, ◌+◌, ◌/◌, ◌%◌, ◌<◌, ◌≤◌, inl, inr, List, [], ◌∷◌, ◌++◌, length, take, drop, refl, sym, ◌∙◌, ap, arith, add-one}
use Rattle.std.proofs.lemmas.List.{drop_all, take_at, drop_at, take-append-drop, length-take-le}
use Rattle.sha2.specs.Sha256.{sha256}
use Rattle.sha2.proofs.Facts256.{length-sha256}
use Rattle.pw_path.specs.Tree.{joined, node_input}
use Rattle.pw_path.specs.Path.{put_at, climb, OnPath, AreHashes, IsRow, AreRows, HasNoCollision}

-- ---- hashes, one after another

-- lists that begin with parts of one length
pub append_parts : {A : Type 0} (xs ys xs' ys' : List A) → length xs ≡ length xs' → xs ++ ys ≡ xs' ++ ys' → (xs ≡ xs') × (ys ≡ ys')
append_parts xs ys xs' ys' e h = (
  sym (take_at xs ys (length xs) refl) ∙ ap (take (length xs)) h ∙ take_at xs' ys' (length xs) (sym e),
  sym (drop_at xs ys (length xs) refl) ∙ ap (drop (length xs)) h ∙ drop_at xs' ys' (length xs) (sym e),
)

joined_same : (xs ys : List (List ℕ)) → AreHashes xs → AreHashes ys → length xs ≡ length ys → joined xs ≡ joined ys → xs ≡ ys
unfolding AreHashes
joined_same [] [] hx hy n e = refl
joined_same [] (y ∷ ys) hx hy n e = absurd (omega arith)
joined_same (x ∷ xs) [] hx hy n e = absurd (omega arith)
joined_same (x ∷ xs) (y ∷ ys) hx hy n e =
    let parts = append_parts x (joined xs) y (joined ys) (hx.0 ∙ sym hy.0) e in
    let rest : xs ≡ ys = joined_same xs ys hx.1 hy.1 (omega arith) parts.1 in
    λ i. parts.0 i ∷ rest i

pub AreHashes-append : (xs ys : List (List ℕ)) → AreHashes xs → AreHashes ys → AreHashes (xs ++ ys)
unfolding AreHashes
AreHashes-append [] ys hx hy = hy
AreHashes-append (x ∷ xs) ys hx hy = (hx.0, AreHashes-append xs ys hx.1 hy)

pub AreHashes-take : (k : ℕ) (xs : List (List ℕ)) → AreHashes xs → AreHashes (take k xs)
unfolding AreHashes
AreHashes-take zero xs h = tt
AreHashes-take (suc k) [] h = tt
AreHashes-take (suc k) (x ∷ xs) h = (h.0, AreHashes-take k xs h.1)

pub AreHashes-drop : (k : ℕ) (xs : List (List ℕ)) → AreHashes xs → AreHashes (drop k xs)
unfolding AreHashes
AreHashes-drop zero xs h = h
AreHashes-drop (suc k) [] h = tt
AreHashes-drop (suc k) (x ∷ xs) h = AreHashes-drop k xs h.1

-- ---- a hash among its siblings

AreHashes-put_at : (k : ℕ) (x : List ℕ) (row : List (List ℕ)) → length x ≡ 32 → AreHashes row → AreHashes (put_at k x row)
unfolding AreHashes
AreHashes-put_at k x row hx h =
    AreHashes-append (take k row) (x ∷ drop k row) (AreHashes-take k row h) (hx, AreHashes-drop k row h)

length-put_at : (k : ℕ) (x : List ℕ) (row : List (List ℕ)) → length (put_at k x row) ≡ suc (length row)
length-put_at zero x row = refl
length-put_at (suc k) x [] = refl
length-put_at (suc k) x (r ∷ row) = ap suc (length-put_at k x row)

put_at_same : (k : ℕ) (x y : List ℕ) (xs ys : List (List ℕ)) → k ≤ length xs → length xs ≡ length ys → put_at k x xs ≡ put_at k y ys → (x ≡ y) × (xs ≡ ys)
put_at_same k x y xs ys h n e =
    let lx : length (take k xs) ≡ k = length-take-le k xs h in
    let ly : length (take k ys) ≡ k = length-take-le k ys (omega arith) in
    let parts = append_parts (take k xs) (x ∷ drop k xs) (take k ys) (y ∷ drop k ys) (lx ∙ sym ly) e in
    let behind : drop k xs ≡ drop k ys = cc parts.1 in
    (cc parts.1, sym (take-append-drop k xs) ∙ (λ i. parts.0 i ++ behind i) ∙ take-append-drop k ys)

-- inputs of one level that are equal have the same hash among the same siblings
node_input_same : (level k : ℕ) (x y : List ℕ) (row row' : List (List ℕ)) → length x ≡ 32 → length y ≡ 32 → IsRow row → IsRow row' → k ≤ 3
    → node_input level (put_at k x row) ≡ node_input level (put_at k y row') → (x ≡ y) × (row ≡ row')
node_input_same level k x y row row' lx ly r r' few same =
    let inputs : joined (put_at k x row) ≡ joined (put_at k y row') = cc same in
    let lengths : length (put_at k x row) ≡ length (put_at k y row') =
    length-put_at k x row ∙ ap suc (r.count ∙ sym r'.count) ∙ sym (length-put_at k y row') in
    let puts = joined_same (put_at k x row) (put_at k y row') (AreHashes-put_at k x row lx r.hashes) (AreHashes-put_at k y row' ly r'.hashes) lengths inputs in
    put_at_same k x y row row' (rw r.count few) (r.count ∙ sym r'.count) puts

-- ---- two ways up

-- two ways up to one root are one, if what is hashed on them has no collision
pub climb_same : (N : List ℕ → Type 0) → HasNoCollision N → (aux aux' : List (List (List ℕ))) (level i : ℕ) (x y : List ℕ)
    → length x ≡ 32 → length y ≡ 32 → AreRows aux → AreRows aux' → length aux ≡ length aux'
    → ((a : List ℕ) → OnPath level i x aux a → N a) → ((a : List ℕ) → OnPath level i y aux' a → N a)
    → climb level i x aux ≡ climb level i y aux' → (x ≡ y) × (aux ≡ aux')
unfolding climb OnPath AreRows
climb_same N apart [] [] level i x y lx ly ra rb n ia ib e = (e, refl)
climb_same N apart [] (row' ∷ rows') level i x y lx ly ra rb n ia ib e = absurd (omega arith)
climb_same N apart (row ∷ rows) [] level i x y lx ly ra rb n ia ib e = absurd (omega arith)
climb_same N apart (row ∷ rows) (row' ∷ rows') level i x y lx ly ra rb n ia ib e =
    let a = node_input (suc level) (put_at (i % 4) x row) in
    let b = node_input (suc level) (put_at (i % 4) y row') in
    let above = climb_same N apart rows rows' (suc level) (i / 4) (sha256 a) (sha256 b) (length-sha256 a) (length-sha256 b) ra.1 rb.1 (omega arith)
    (λ c h. ia c (inr h)) (λ c h. ib c (inr h)) e in
    let same : a ≡ b = apart a b (ia a (inl refl)) (ib b (inl refl)) above.0 in
    let here = node_input_same (suc level) (i % 4) x y row row' lx ly ra.0 rb.0 (omega arith) same in
    let rest = above.1 in
    (here.0, λ j. here.1 j ∷ rest j)

-- ---- the way up, level by level

pub climb_more : (aux : List (List (List ℕ))) (level i : ℕ) (x : List ℕ) → level < length aux
    → climb level i x (drop level aux) ≡ climb (level + 1) (i / 4) (sha256 (node_input (level + 1) (put_at (i % 4) x (get_or aux level [])))) (drop (level + 1) aux)
unfolding climb
climb_more aux level i x h = rw (add-one, drop-cons aux level []) refl

pub climb_end : (aux : List (List (List ℕ))) (level i : ℕ) (x : List ℕ) → length aux ≤ level → climb level i x (drop level aux) ≡ x
unfolding climb
climb_end aux level i x h = rw (drop_all level aux h) refl
