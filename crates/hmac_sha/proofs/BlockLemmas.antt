-- Blocks of PBKDF2, as they are written one after another.
use Rattle.std.proofs.Common.{◌≡◌, ℕ, zero, suc, ◌+◌, ◌-◌, ◌*◌, ◌≤◌, ◌<◌, ◌/◌, List, [], ◌∷◌, ◌++◌, arith, refl, sym, ap, ◌∙◌, length, take, drop, replicate, min, inl, inr, length-append, add-one}
use Rattle.std.proofs.lemmas.Bool.{le-leb, cases_lt}
use Rattle.std.proofs.lemmas.List.{drop-replicate, take_all, length-take-le}
use Rattle.std.proofs.lemmas.Slice.{take-put_mid}
use Rattle.std.specs.Int.{w32, to_be_bytes}
use Rattle.sha2.proofs.Facts256.{length-sha256}
use Rattle.hmac_sha.specs.Hmac.{key_block, hmac}
use Rattle.hmac_sha.specs.Pbkdf2.{block_at, blocks, pbkdf2_one}
use borrow.Rule.Slice.PartMut.{put_mid}

-- a key of at most 64 bytes, written over the front of a block of zeros
pub key_block_short : (key written : List ℕ) → length key ≤ 64 → written ≡ key
    → written ++ drop (length key) (replicate 64 0) ≡ key_block key
key_block_short key written short same =
    rw (le-leb (length key) 64 short, same, drop-replicate {X = ℕ} (length key) 64 0) refl

-- a MAC has 32 bytes
pub length-hmac : (key text : List ℕ) → length (hmac key text) ≡ 32
unfolding hmac
length-hmac key text = length-sha256 _

pub length-blocks : (password salt : List ℕ) (n : ℕ) → length (blocks password salt n) ≡ 32 * n
unfolding blocks
length-blocks password salt zero = refl
length-blocks password salt (suc n) =
    let before = length-blocks password salt n in
    let last = length-hmac password (salt ++ to_be_bytes w32 (n + 1)) in
    omega (arith, length-append (blocks password salt n) (block_at password salt (n + 1)))

-- PBKDF2 gives as many bytes as are asked for
pub length-pbkdf2_one : (password salt : List ℕ) (len : ℕ) → length (pbkdf2_one password salt len) ≡ len
unfolding pbkdf2_one
length-pbkdf2_one password salt len =
    let n : ℕ = (len + 31) / 32 in
    let enough : len ≤ 32 * n = omega arith in
    length-take-le len (blocks password salt n) (omega (arith, enough, length-blocks password salt n))

-- taking past the end of the first of two lists
take-append : (xs ys : List ℕ) (n : ℕ) → length xs ≤ n → take n (xs ++ ys) ≡ xs ++ take (n - length xs) ys
take-append [] ys n h = let e : n ≡ n - 0 = omega arith in ap (λ (j : ℕ). take j ys) e
take-append (x ∷ xs) ys zero h = absurd (omega arith)
take-append (x ∷ xs) ys (suc n) h =
    let e : suc n - suc (length xs) ≡ n - length xs = omega arith in
    rw e (ap (λ (l : List ℕ). x ∷ l) (take-append xs ys n (omega arith)))

-- the front of the output, as far as n blocks go, is theirs
abbrev pub IsWritten : List ℕ → List ℕ → ℕ → ℕ → List ℕ → Type 0
IsWritten password salt len n out = take (min (32 * n) len) out ≡ take len (blocks password salt n)

pub written_none : (password salt : List ℕ) (len : ℕ) (out : List ℕ) → IsWritten password salt len 0 out
unfolding blocks
written_none password salt len out =
    let e : min 0 len ≡ 0 = omega arith in
    rw e (sym (take_all len [] (omega arith)))

-- a block, cut where the output ends, is written after n others
pub written_next : (password salt : List ℕ) (len n k : ℕ) (out block part : List ℕ)
    → IsWritten password salt len n out → 32 * n < len → length out ≡ len → k ≡ min 32 (len - 32 * n)
    → block ≡ block_at password salt (n + 1) → part ≡ take k block
    → IsWritten password salt len (n + 1) (put_mid (32 * n) k out part)
unfolding blocks
written_next password salt len n k out block part held more lo ek eb ep =
    let blen : length block ≡ 32 = ap length eb ∙ length-hmac password (salt ++ to_be_bytes w32 (n + 1)) in
    let plen : length part ≡ k = ap length ep ∙ length-take-le k block (omega arith) in
    let dlen = length-blocks password salt n in
    let end : min (32 * (n + 1)) len ≡ 32 * n + length part = omega arith in
    let front : min (32 * n) len ≡ 32 * n = omega arith in
    let whole : take len (blocks password salt n) ≡ blocks password salt n = take_all len _ (omega arith) in
    let held_front : take (32 * n) out ≡ blocks password salt n = rw front at held ∙ whole in
    let rest : take (len - length (blocks password salt n)) block ≡ take k block = elim (cases_lt 32 (len - length (blocks password salt n))) [
      | inl long ↦ take_all _ block (omega arith) ∙ sym (take_all k block (omega arith))
      | inr short ↦ (let e : len - length (blocks password salt n) ≡ k = omega arith in ap (λ (j : ℕ). take j block) e)
    ] in
    take-put_mid (32 * n) k out part (min (32 * (n + 1)) len) end (omega arith)
    ∙ rw (held_front, add-one, take-append (blocks password salt n) (block_at password salt (n + 1)) len (omega arith), ← eb, rest, ep) refl

-- the output is whole once there are as many blocks as it needs
pub written_all : (password salt : List ℕ) (len n : ℕ) (out : List ℕ) → IsWritten password salt len n out
    → length out ≡ len → n ≡ (len + 31) / 32 → out ≡ pbkdf2_one password salt len
unfolding pbkdf2_one
written_all password salt len n out held lo e =
    let all : min (32 * n) len ≡ len = omega arith in
    sym (take_all len out (omega arith)) ∙ rw (all, e) at held
