-- Lists that are written part after part.
use Rattle.std.proofs.Common.{◌≡◌, ℕ, zero, suc, ◌+◌, ◌-◌, ◌*◌, ◌<◌, ◌≤◌, List, [], ◌∷◌, ◌++◌, refl, arith, sym, ap, ◌∙◌, length, take, drop, add-one, set, slice_index, inl, inr, length-append, length-drop}
use Rattle.std.proofs.lemmas.List.{take_all, take_more, take_more_set, take-append-le, drop-append-le, drop_at, flat_map_more, drop-drop}
use Rattle.std.proofs.lemmas.Slice.{take-put_mid, drop-put_mid}
use Rattle.std.proofs.lemmas.Simd.{get_or-zip2, length-zip2}
use Rattle.std.proofs.lemmas.Grind.{same_number_lists}
use Rattle.std.proofs.lemmas.Bool.{cases_lt}
use Rattle.std.proofs.lemmas.Nat.{column_fits}
use Rattle.std.specs.Int.{w32, to_le_bytes}
use Rattle.std.specs.List.{flat_map}
use Rattle.std.specs.Simd.Lanes.{zip2}
use Rattle.scrypt_kdf.specs.Lists.{joined}
use borrow.Rule.Slice.PartMut.{put_mid}

-- a list of which each element is f of those of two others
pub zip_of : (f : ℕ → ℕ → ℕ) (xs ys out : List ℕ) → length xs ≡ length ys → length out ≡ length xs
    → ((j : ℕ) → j < length xs → slice_index out j ≡ f (slice_index xs j) (slice_index ys j))
    → out ≡ zip2 f xs ys
zip_of f xs ys out same len each = same_number_lists _ _ (len ∙ sym (length-zip2 f xs ys same))
    (λ k h. each k (omega arith) ∙ sym (get_or-zip2 f xs ys k 0 0 0 (omega arith) (omega arith)))

-- n parts of w elements, joined
pub length-joined : (f : ℕ → List ℕ) (w n : ℕ) → ((i : ℕ) → i < n → length (f i) ≡ w)
    → length (joined f n) ≡ w * n
unfolding joined
length-joined f w zero each = omega arith
length-joined f w (suc n) each =
    let before = length-joined f w n (λ i h. each i (omega arith)) in
    let last = each n (omega arith) in
    omega (arith, length-append (joined f n) (f n))

-- part j of n parts of w elements
pub joined_row : (f : ℕ → List ℕ) (w n j : ℕ) → ((i : ℕ) → length (f i) ≡ w) → j < n
    → take w (drop (w * j) (joined f n)) ≡ f j
unfolding joined
joined_row f w zero j each h = absurd (omega arith)
joined_row f w (suc n) j each h =
    let len = length-joined f w n (λ i lt. each i) in
    elim (cases_lt j n) [
      | inl below ↦
          let rows : List ℕ = joined f n in
          let fits : w * j + w ≤ w * n = column_fits w j w n below (omega arith) in
          let d : length (drop (w * j) rows) ≡ w * n - w * j = length-drop (w * j) rows ∙ ap (λ (k : ℕ). k - w * j) len in
          rw (drop-append-le (w * j) rows (f n) (omega arith), take-append-le w (drop (w * j) rows) (f n) (omega arith))
          (joined_row f w n j each below)
      | inr top ↦
          let e : j ≡ n = omega arith in
          rw (e, drop_at (joined f n) (f n) (w * n) len) (take_all w (f n) (omega (arith, each n)))
    ]

-- one more part, appended
pub joined_more : (f : ℕ → List ℕ) (i : ℕ) (rows x more : List ℕ) → rows ≡ joined f i → x ≡ f i
    → more ≡ rows ++ x → more ≡ joined f (i + 1)
unfolding joined
joined_more f i rows x more er ex em = rw (em, er, ex, add-one) refl

-- one more element, written after those of f 0, …, f (i - 1)
pub joined_set : (f : ℕ → ℕ) (i y : ℕ) (xs : List ℕ) → take i xs ≡ joined (λ j. f j ∷ []) i
    → i < length xs → y ≡ f i → take (i + 1) (set xs i y) ≡ joined (λ j. f j ∷ []) (i + 1)
unfolding joined
joined_set f i y xs held below e = take_more_set xs i y below ∙ rw (held, e, add-one) refl

-- one more part of w elements, written after f 0, …, f (i - 1)
pub joined_put : (f : ℕ → List ℕ) (w i k : ℕ) (out part : List ℕ) → take (w * i) out ≡ joined f i
    → w * i ≤ length out → length part ≡ w → part ≡ f i
    → take (w * (i + 1)) (put_mid (w * i) k out part) ≡ joined f (i + 1)
unfolding joined
joined_put f w i k out part held fits len e =
    let next : w * (i + 1) ≡ w * i + w = grind arith in
    take-put_mid (w * i) k out part (w * (i + 1)) (omega (arith, next, len)) fits ∙ rw (held, e, add-one) refl

-- what stands after a part that is written over
pub drop_put : (w i k : ℕ) (out old part : List ℕ) → drop (w * i) out ≡ drop (w * i) old
    → w * i ≤ length out → length part ≡ k → k ≡ w
    → drop (w * (i + 1)) (put_mid (w * i) k out part) ≡ drop (w * (i + 1)) old
drop_put w i k out old part held fits len width =
    let next : w * (i + 1) ≡ w * i + w = grind arith in
    drop-put_mid (w * i) k out part (w * (i + 1)) (omega (arith, next, width)) fits len
    ∙ rw next (sym (drop-drop w (w * i) out) ∙ ap (drop w) held ∙ drop-drop w (w * i) old)

-- the bytes of one more word, written after those of i words
pub bytes_put : (words bytes part : List ℕ) (i k : ℕ)
    → take (4 * i) bytes ≡ flat_map (to_le_bytes w32) (take i words) → i < length words
    → 4 * i ≤ length bytes → part ≡ to_le_bytes w32 (slice_index words i)
    → take (4 * (i + 1)) (put_mid (4 * i) k bytes part) ≡ flat_map (to_le_bytes w32) (take (i + 1) words)
bytes_put words bytes part i k held below fits e =
    let len : length part ≡ 4 = ap length e in
    let more = flat_map_more (to_le_bytes w32) [] (take i words) (slice_index words i) in
    take-put_mid (4 * i) k bytes part (4 * (i + 1)) (omega arith) fits
    ∙ rw (held, e, take_more words i 0 below) more
