-- The pairs of a schedule as bytes.
use Rattle.std.proofs.Common.{◌≡◌, ℕ, suc, ◌+◌, ◌-◌, ◌*◌, ◌<◌, ◌≤◌, List, [], ◌∷◌, ◌++◌, length, take, drop, replicate, get_or, refl, sym, ◌∙◌, ap, arith}
use Rattle.std.proofs.lemmas.List.{append-nil, append_assoc, length-append, length-replicate, drop-replicate, drop-drop, take_more, take_all}
use Rattle.std.specs.Int.{w32, to_be_bytes, from_be_bytes}
use Rattle.pw_leaf.specs.LeafBytes.{pairs_bytes, pairs_field}
use Rattle.pw_leaf.specs.Reading.{pairs_of}

-- ---- the pairs that are written

pub length-pairs_bytes : (pairs : List (ℕ × ℕ)) → length (pairs_bytes pairs) ≡ 8 * length pairs
unfolding pairs_bytes
length-pairs_bytes [] = refl
length-pairs_bytes (pair ∷ pairs) = let e = length-pairs_bytes pairs in omega arith

pairs_bytes-append : (xs ys : List (ℕ × ℕ)) → pairs_bytes (xs ++ ys) ≡ pairs_bytes xs ++ pairs_bytes ys
unfolding pairs_bytes
pairs_bytes-append [] ys = refl
pairs_bytes-append (pair ∷ xs) ys =
    ap (λ rest. to_be_bytes w32 pair.0 ++ (to_be_bytes w32 pair.1 ++ rest)) (pairs_bytes-append xs ys) ∙ simp append_assoc

-- one pair more
pub pairs_bytes-more : (pairs : List (ℕ × ℕ)) (n : ℕ) → n < length pairs
    → pairs_bytes (take (n + 1) pairs) ≡ pairs_bytes (take n pairs) ++ to_be_bytes w32 (get_or pairs n (0, 0)).0 ++ to_be_bytes w32 (get_or pairs n (0, 0)).1
unfolding pairs_bytes
pairs_bytes-more pairs n inside =
    let pair = get_or pairs n (0, 0) in
    ap pairs_bytes (take_more pairs n (0, 0) inside) ∙ pairs_bytes-append (take n pairs) (pair ∷ [])
    ∙ ap (λ r. pairs_bytes (take n pairs) ++ (to_be_bytes w32 pair.0 ++ r)) (append-nil (to_be_bytes w32 pair.1))
    ∙ sym (append_assoc (pairs_bytes (take n pairs)) (to_be_bytes w32 pair.0) (to_be_bytes w32 pair.1))

-- the zeros behind one pair more
pub zeros_behind : (n : ℕ) → drop {A = ℕ} 4 (drop 4 (replicate (128 - 8 * n) 0)) ≡ replicate (128 - 8 * (n + 1)) 0
zeros_behind n =
    ap (drop {A = ℕ} 4) (drop-replicate 4 (128 - 8 * n) 0) ∙ drop-replicate 4 (128 - 8 * n - 4) 0 ∙ ap (λ k. replicate k 0) (omega arith)

-- all pairs, and the zeros behind them
pub pairs_field-parts : (pairs : List (ℕ × ℕ)) (n : ℕ) (front rest : List ℕ) → length pairs ≤ n → n ≤ length pairs → front ≡ pairs_bytes (take n pairs) → rest ≡ replicate (128 - 8 * n) 0
    → front ++ rest ≡ pairs_field pairs
unfolding pairs_field
pairs_field-parts pairs n front rest all within f r =
    let same : n ≡ length pairs = omega arith in
    (λ i. f i ++ r i) ∙ (λ i. pairs_bytes (take_all n pairs all i) ++ replicate (128 - 8 * same i) 0)

-- ---- the pairs that are read

-- what is left to read after the first n pairs
pub read_more : (count n : ℕ) (bytes : List ℕ) (pairs : List (ℕ × ℕ)) → n < count → n < length pairs
    → take n pairs ++ pairs_of (count - n) (drop (4 + 8 * n) bytes) ≡ pairs_of count (drop 4 bytes)
    → (pair : ℕ × ℕ) → pair ≡ (from_be_bytes w32 (take 4 (drop (4 + 8 * n) bytes)), from_be_bytes w32 (take 4 (drop (4 + 8 * n + 4) bytes)))
    → (pairs' : List (ℕ × ℕ)) → take (n + 1) pairs' ≡ take n pairs ++ pair ∷ []
    → take (n + 1) pairs' ++ pairs_of (count - (n + 1)) (drop (4 + 8 * (n + 1)) bytes) ≡ pairs_of count (drop 4 bytes)
unfolding pairs_of
read_more count n bytes pairs inside room so_far pair is pairs' taken =
    let left : count - n ≡ suc (count - (n + 1)) = omega arith in
    let at4 : drop 4 (drop (4 + 8 * n) bytes) ≡ drop (4 + 8 * n + 4) bytes = drop-drop 4 (4 + 8 * n) bytes in
    let at8 : drop 8 (drop (4 + 8 * n) bytes) ≡ drop (4 + 8 * (n + 1)) bytes = drop-drop 8 (4 + 8 * n) bytes ∙ ap (λ k. drop k bytes) (omega arith) in
    let step : pairs_of (count - n) (drop (4 + 8 * n) bytes) ≡ pair ∷ pairs_of (count - (n + 1)) (drop (4 + 8 * (n + 1)) bytes) =
    ap (λ k. pairs_of k (drop (4 + 8 * n) bytes)) left
    ∙ (λ i. (from_be_bytes w32 (take 4 (drop (4 + 8 * n) bytes)), from_be_bytes w32 (take 4 (at4 i))) ∷ pairs_of (count - (n + 1)) (at8 i))
    ∙ ap (λ p. p ∷ pairs_of (count - (n + 1)) (drop (4 + 8 * (n + 1)) bytes)) (sym is) in
    ap (λ z. z ++ pairs_of (count - (n + 1)) (drop (4 + 8 * (n + 1)) bytes)) taken
    ∙ append_assoc (take n pairs) (pair ∷ []) (pairs_of (count - (n + 1)) (drop (4 + 8 * (n + 1)) bytes))
    ∙ ap (λ z. take n pairs ++ z) (sym step) ∙ so_far

pub read_all : (count n : ℕ) (bytes : List ℕ) (pairs : List (ℕ × ℕ)) → count ≤ n → n ≤ count
    → take n pairs ++ pairs_of (count - n) (drop (4 + 8 * n) bytes) ≡ pairs_of count (drop 4 bytes)
    → take count pairs ≡ pairs_of count (drop 4 bytes)
unfolding pairs_of
read_all count n bytes pairs all within so_far =
    let same : n ≡ count = omega arith in
    let none : count - n ≡ 0 = omega arith in
    ap (λ k. take k pairs) (sym same) ∙ sym (append-nil (take n pairs)) ∙ ap (λ k. take n pairs ++ pairs_of k (drop (4 + 8 * n) bytes)) (sym none) ∙ so_far

-- the room of 16 pairs
pub length-pairs_field : (schedule : List (ℕ × ℕ)) → length schedule ≤ 16 → length (pairs_field schedule) ≡ 128
unfolding pairs_field
length-pairs_field schedule few =
    let zeros : length (replicate (128 - 8 * length schedule) 0) ≡ 128 - 8 * length schedule = length-replicate (128 - 8 * length schedule) 0 in
    let pairs : length (pairs_bytes schedule) ≡ 8 * length schedule = length-pairs_bytes schedule in
    length-append (pairs_bytes schedule) (replicate (128 - 8 * length schedule) 0) ∙ (λ i. pairs i + zeros i) ∙ omega arith
