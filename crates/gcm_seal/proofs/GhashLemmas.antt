-- The hash, block by block.
use Rattle.std.proofs.Common.{◌≡◌, ℕ, zero, suc, ◌+◌, ◌-◌, ◌*◌, ◌/◌, ◌%◌, ◌<◌, ◌≤◌, inl, inr, List, ◌++◌, length, take, drop, replicate, min, bit_xor, refl, arith, sym, ap, ap₂, ◌∙◌, add-one, length-drop, length-append}
use Rattle.std.proofs.lemmas.List.{take-append-le, drop-append-le, drop-drop, drop_at, take_all, append-nil, length-take-le, length-replicate}
use Rattle.std.proofs.lemmas.Bool.{cases_lt}
use Rattle.std.specs.Int.{w128, from_be_bytes}
use Rattle.gcm_seal.specs.Field128.{product}
use Rattle.gcm_seal.specs.Ghash.{hash_from, block_at, filled, hashed, lengths_block, ghash}

-- what follows n blocks doesn't count
hash_from-append_left : (h y : ℕ) (m x : List ℕ) (n : ℕ) → 16 * n ≤ length m
    → hash_from h y (m ++ x) n ≡ hash_from h y m n
unfolding hash_from
hash_from-append_left h y m x zero le = refl
hash_from-append_left h y m x (suc n) le =
    let fits : 16 ≤ length (drop (16 * n) m) = omega (arith, length-drop (16 * n) m) in
    rw (
      drop-append-le (16 * n) m x (omega arith),
      take-append-le 16 (drop (16 * n) m) x fits,
      hash_from-append_left h y m x n (omega arith),
    ) refl

-- the blocks of one list, then those of another
pub hash_from-append : (h y : ℕ) (m x : List ℕ) (n k : ℕ) → length m ≡ 16 * n
    → hash_from h y (m ++ x) (n + k) ≡ hash_from h (hash_from h y m n) x k
unfolding hash_from
hash_from-append h y m x n zero len =
    let e : n + 0 ≡ n = omega arith in
    rw e (hash_from-append_left h y m x n (omega arith))
hash_from-append h y m x n (suc k) len =
    let place : n + suc k ≡ suc (n + k) = omega arith in
    let at : 16 * (n + k) ≡ 16 * n + 16 * k = omega arith in
    let part : drop (16 * (n + k)) (m ++ x) ≡ drop (16 * k) x =
    ap (λ (j : ℕ). drop j (m ++ x)) at ∙ sym (drop-drop (16 * k) (16 * n) (m ++ x))
    ∙ ap (drop (16 * k)) (drop_at m x (16 * n) len) in
    rw (place, part, hash_from-append h y m x n k len) refl

pub length-filled : (m : List ℕ) → length (filled m) ≡ 16 * ((length m + 15) / 16)
unfolding filled
length-filled m =
    let n = (16 - length m % 16) % 16 in
    omega (arith, length-append m (replicate {A = ℕ} n 0), length-replicate {A = ℕ} n 0)

-- block i of filled bytes is a part of the bytes, with zeros after it where it is short
pub block-filled : (m : List ℕ) (i k : ℕ) → 16 * i < length m → k ≡ min 16 (length m - 16 * i)
    → take 16 (drop (16 * i) (filled m)) ≡ take k (drop (16 * i) m) ++ replicate (16 - k) 0
unfolding filled
block-filled m i k below ek =
    let zeros : List ℕ = replicate ((16 - length m % 16) % 16) 0 in
    let rest : List ℕ = drop (16 * i) m in
    let left : length rest ≡ length m - 16 * i = length-drop (16 * i) m in
    let cut : drop (16 * i) (filled m) ≡ rest ++ zeros = drop-append-le (16 * i) m zeros (omega arith) in
    ap (take 16) cut ∙ elim (cases_lt k 16) [
      | inr full ↦
          let whole : k ≡ 16 = omega arith in
          rw whole (take-append-le 16 rest zeros (omega arith) ∙ sym (append-nil (take 16 rest)))
      | inl short ↦
          let all : take k rest ≡ rest = take_all k rest (omega arith) in
          let missing : (16 - length m % 16) % 16 ≡ 16 - k = omega arith in
          let long = length-append rest (replicate {A = ℕ} (16 - k) 0) in
          rw (all, missing) (take_all 16 (rest ++ replicate (16 - k) 0)
          (omega (arith, long, length-replicate {A = ℕ} (16 - k) 0)))
    ]

-- one more block of filled bytes
pub absorbed_next : (h y : ℕ) (m : List ℕ) (i k z b p : ℕ) → 16 * i < length m
    → k ≡ min 16 (length m - 16 * i) → z ≡ hash_from h y (filled m) i
    → b ≡ from_be_bytes w128 (take k (drop (16 * i) m)
    ++ replicate (16 - length (take k (drop (16 * i) m))) 0)
    → p ≡ product (bit_xor z b) h → p ≡ hash_from h y (filled m) (i + 1)
unfolding hash_from
absorbed_next h y m i k z b p below ek ez eb ep =
    let part : List ℕ = take k (drop (16 * i) m) in
    let long : length part ≡ k =
    length-take-le k (drop (16 * i) m) (omega (arith, length-drop (16 * i) m)) in
    let same : b ≡ block_at (filled m) i =
    eb ∙ ap (λ (j : ℕ). from_be_bytes w128 (part ++ replicate (16 - j) 0)) long
    ∙ ap (from_be_bytes w128) (sym (block-filled m i k below ek)) in
    rw add-one (ep ∙ ap₂ (λ (u v : ℕ). product (bit_xor u v) h) ez same)

-- the whole hash, by its three parts
pub ghash_of_parts : (h : ℕ) (aad text : List ℕ) (a t l p : ℕ)
    → a ≡ hash_from h 0 (filled aad) ((length aad + 15) / 16)
    → t ≡ hash_from h a (filled text) ((length text + 15) / 16)
    → l ≡ from_be_bytes w128 (lengths_block aad text) → p ≡ product (bit_xor t l) h
    → p ≡ ghash h (hashed aad text)
unfolding hash_from ghash hashed
ghash_of_parts h aad text a t l p ea et el ep =
    let na = (length aad + 15) / 16 in
    let nt = (length text + 15) / 16 in
    let lengths = lengths_block aad text in
    let both = filled aad ++ filled text in
    let la = length-filled aad in
    let lt = length-filled text in
    let lb : length both ≡ 16 * (na + nt) = omega (arith, length-append (filled aad) (filled text)) in
    let count : length (hashed aad text) / 16 ≡ na + nt + 1 = omega (arith, length-append both lengths) in
    let before : hash_from h 0 both (na + nt) ≡ t =
    hash_from-append h 0 (filled aad) (filled text) na nt la
    ∙ ap (λ (y : ℕ). hash_from h y (filled text) nt) (sym ea) ∙ sym et in
    let last : hash_from h t lengths 1 ≡ p =
    ap (λ (b : ℕ). product (bit_xor t b) h) (sym el) ∙ sym ep in
    sym (ap (hash_from h 0 (hashed aad text)) count ∙ hash_from-append h 0 both lengths (na + nt) 1 lb
    ∙ ap (λ (y : ℕ). hash_from h y lengths 1) before ∙ last)
