-- Counter mode, block by block.
use Rattle.std.proofs.Common.{◌≡◌, ℕ, zero, suc, ◌+◌, ◌-◌, ◌*◌, ◌/◌, ◌%◌, ◌^◌, ◌<◌, ◌≤◌, List, [], ◌∷◌, ◌++◌, refl, arith, sym, ap, ap₂, ◌∙◌, bit_xor, min, length, take, drop, add-one, length-append, length-drop, inl, inr}
use Rattle.std.proofs.lemmas.List.{take_all, drop_all, append_assoc, append-nil, length-take-le, take_at, drop_at, drop-drop}
use Rattle.std.proofs.lemmas.Bool.{cases_lt}
use Rattle.std.proofs.lemmas.Nat.{from_be_bytes-to_be_bytes_4}
use Rattle.std.specs.Int.{w32, from_be_bytes, to_be_bytes}
use Rattle.std.specs.Int.Bits.{xor_zero_r, xor_self}
use lib.Bits.{xor_assoc}
use borrow.Rule.Slice.PartMut.{put_mid}
use Rattle.aes_core.specs.Aes.{xor_bytes, cipher, cipher_with}
use Rattle.aes_core.specs.Counter.{counter, key_stream, gctr}
use Rattle.aes_core.specs.Words.{state_bytes}
use Rattle.aes_core.proofs.RoundLemmas.{take_part}

pub length-xor_bytes : (xs ys : List ℕ) → length xs ≤ length ys
    → length (xor_bytes xs ys) ≡ length xs
length-xor_bytes [] ys h = refl
length-xor_bytes (x ∷ xs) [] h = absurd (omega arith)
length-xor_bytes (x ∷ xs) (y ∷ ys) h = ap suc (length-xor_bytes xs ys (omega arith))

xor_bytes-append : (ps bs cs ds : List ℕ) → length ps ≡ length cs
    → xor_bytes (ps ++ bs) (cs ++ ds) ≡ xor_bytes ps cs ++ xor_bytes bs ds
xor_bytes-append [] bs [] ds h = refl
xor_bytes-append [] bs (c ∷ cs) ds h = absurd (omega arith)
xor_bytes-append (a ∷ ps) bs [] ds h = absurd (omega arith)
xor_bytes-append (a ∷ ps) bs (c ∷ cs) ds h =
    ap (λ (l : List ℕ). bit_xor a c ∷ l) (xor_bytes-append ps bs cs ds (omega arith))

-- bytes under the same xor twice
pub xor_bytes_twice : (xs ys : List ℕ) → length xs ≤ length ys
    → xor_bytes (xor_bytes xs ys) ys ≡ xs
xor_bytes_twice [] ys h = refl
xor_bytes_twice (x ∷ xs) [] h = absurd (omega arith)
xor_bytes_twice (x ∷ xs) (y ∷ ys) h =
    let same : bit_xor (bit_xor x y) y ≡ x =
    xor_assoc x y y ∙ ap (bit_xor x) (xor_self y) ∙ xor_zero_r x in
    ap₂ (λ (z : ℕ) (l : List ℕ). z ∷ l) same (xor_bytes_twice xs ys (omega arith))

pub length-cipher : (nk nr : ℕ) (key block : List ℕ) → length (cipher nk nr key block) ≡ 16
unfolding cipher cipher_with
length-cipher nk nr key block = refl

pub length-key_stream : (nk nr : ℕ) (key first : List ℕ) (n : ℕ)
    → length (key_stream nk nr key first n) ≡ 16 * n
unfolding key_stream
length-key_stream nk nr key first zero = refl
length-key_stream nk nr key first (suc n) =
    let stream = key_stream nk nr key first n in
    let block = cipher nk nr key (counter first n) in
    let before = length-key_stream nk nr key first n in
    let last = length-cipher nk nr key (counter first n) in
    omega (arith, length-append stream block)

pub length-gctr : (nk nr : ℕ) (key first text : List ℕ)
    → length (gctr nk nr key first text) ≡ length text
unfolding gctr
length-gctr nk nr key first text =
    let n = (length text + 15) / 16 in
    let long = length-key_stream nk nr key first n in
    length-xor_bytes text (key_stream nk nr key first n) (omega arith)

-- counter mode is its own inverse
pub gctr-gctr : (nk nr : ℕ) (key first text : List ℕ)
    → gctr nk nr key first (gctr nk nr key first text) ≡ text
unfolding gctr
gctr-gctr nk nr key first text =
    let stream = λ (len : ℕ). key_stream nk nr key first ((len + 15) / 16) in
    let long = length-key_stream nk nr key first ((length text + 15) / 16) in
    ap (λ (len : ℕ). xor_bytes (xor_bytes text (stream (length text))) (stream len))
    (length-gctr nk nr key first text)
    ∙ xor_bytes_twice text (stream (length text)) (omega arith)

-- the first n blocks of the text are done, and the rest is as it was
abbrev pub IsDone : ℕ → ℕ → List ℕ → List ℕ → List ℕ → ℕ → List ℕ → Type 0
IsDone nk nr key first text n buf =
    buf ≡ xor_bytes (take (16 * n) text) (key_stream nk nr key first n) ++ drop (16 * n) text

pub done_none : (nk nr : ℕ) (key first text : List ℕ) → IsDone nk nr key first text 0 text
unfolding key_stream
done_none nk nr key first text = refl

-- a part of at most 16 bytes, or all that is left
same_part : (k : ℕ) (rest : List ℕ) → k ≡ min 16 (length rest)
    → (take 16 rest ≡ take k rest) × (drop 16 rest ≡ drop k rest)
same_part k rest e = elim (cases_lt k 16) [
  | inr full ↦
      let w : 16 ≡ k = omega arith in
      (ap (λ (j : ℕ). take j rest) w, ap (λ (j : ℕ). drop j rest) w)
  | inl short ↦ (
    take_all 16 rest (omega arith) ∙ sym (take_all k rest (omega arith)),
    drop_all 16 rest (omega arith) ∙ sym (drop_all k rest (omega arith)),
  )
]

-- one more block, or the short last one
pub done_next : (nk nr : ℕ) (key first text : List ℕ) (n : ℕ) (buf part block : List ℕ) (k : ℕ)
    → IsDone nk nr key first text n buf → 16 * n ≤ length text → k ≡ min 16 (length text - 16 * n)
    → block ≡ cipher nk nr key (counter first n)
    → part ≡ xor_bytes (take k (drop (16 * n) buf)) block
    → IsDone nk nr key first text (n + 1) (put_mid (16 * n) k buf part)
unfolding key_stream
done_next nk nr key first text n buf part block k held fits ek eks ep =
    let stream = key_stream nk nr key first n in
    let front : List ℕ = xor_bytes (take (16 * n) text) stream in
    let rest : List ℕ = drop (16 * n) text in
    let tlen : length (take (16 * n) text) ≡ 16 * n = length-take-le (16 * n) text fits in
    let klen = length-key_stream nk nr key first n in
    let flen : length front ≡ 16 * n =
    length-xor_bytes (take (16 * n) text) stream (omega arith) ∙ tlen in
    let rlen : length rest ≡ length text - 16 * n = length-drop (16 * n) text in
    let head : take (16 * n) buf ≡ front = rw held (take_at front rest (16 * n) (omega arith)) in
    let tail : drop (16 * n) buf ≡ rest = rw held (drop_at front rest (16 * n) (omega arith)) in
    let same = same_part k rest (omega arith) in
    let now : put_mid (16 * n) k buf part ≡ front ++ (xor_bytes (take k rest) block ++ drop k rest) =
    rw (ep, tail, head) refl in
    let next : 16 * (n + 1) ≡ 16 * n + 16 = omega arith in
    let far : drop (16 * n + 16) text ≡ drop 16 rest = sym (drop-drop 16 (16 * n) text) in
    let joined = xor_bytes-append (take (16 * n) text) (take k rest) stream block (omega arith) in
    now ∙ rw (next, take_part text (16 * n) 16, far, add-one, same.0, same.1, ← eks, joined)
    (sym (append_assoc front (xor_bytes (take k rest) block) (drop k rest)))

pub done_all : (nk nr : ℕ) (key first text : List ℕ) (n : ℕ) (buf : List ℕ)
    → IsDone nk nr key first text n buf → n ≡ (length text + 15) / 16
    → buf ≡ gctr nk nr key first text
unfolding gctr
done_all nk nr key first text n buf held e =
    let all : take (16 * n) text ≡ text = take_all (16 * n) text (omega arith) in
    let none : drop (16 * n) text ≡ [] = drop_all (16 * n) text (omega arith) in
    held ∙ rw (all, none, append-nil, e) refl

-- the counter's words
pub counter_next : (first : List ℕ) (n a b c d e : ℕ) → d < 2 ^ 32
    → state_bytes a b c d ≡ counter first n → e ≡ (d + 1) % 2 ^ 32
    → state_bytes a b c e ≡ counter first (n + 1)
unfolding counter
counter_next first n a b c d e fits held ee =
    let back : from_be_bytes w32 (to_be_bytes w32 d) ≡ d = from_be_bytes-to_be_bytes_4 d fits in
    rw (add-one, ← held, ee) (rw back refl)
