-- Fields that stand one after another in bytes, by their places.
use Rattle.std.proofs.Common.{◌≡◌, ℕ, ◌+◌, List, ◌++◌, length, take, drop, sym, ◌∙◌, ap}
use Rattle.std.proofs.lemmas.List.{take_at, drop_at, drop-drop}

-- what stands behind a field
pub drop_past : (n k m : ℕ) (bytes front rest : List ℕ) → n + k ≡ m → drop n bytes ≡ front ++ rest → length front ≡ k → drop m bytes ≡ rest
drop_past n k m bytes front rest sum is size =
    ap (λ i. drop i bytes) (sym sum) ∙ sym (drop-drop k n bytes) ∙ ap (drop k) is ∙ drop_at front rest k size

-- a field at its place
pub take_there : (n k : ℕ) (bytes front rest : List ℕ) → drop n bytes ≡ front ++ rest → length front ≡ k → take k (drop n bytes) ≡ front
take_there n k bytes front rest is size = ap (take k) is ∙ take_at front rest k size

-- what stands in front once one more field was put at its place
pub put_next : (at to : ℕ) (old new field front bytes : List ℕ) → take at old ≡ front → take (at + length field) new ≡ take at old ++ field
    → field ≡ bytes → at + length bytes ≡ to → take to new ≡ front ++ bytes
put_next at to old new field front bytes so_far put same ends =
    ap (λ k. take k new) (sym ends ∙ ap (λ f. at + length f) (sym same)) ∙ put ∙ (λ i. so_far i ++ same i)

-- what stays behind a field that was put
pub put_rest : (at n : ℕ) (old new field bytes : List ℕ) → drop (at + length field) new ≡ drop (at + length field) old
    → field ≡ bytes → length bytes ≡ n → drop (at + n) new ≡ drop (at + n) old
put_rest at n old new field bytes stays same size =
    let to : at + n ≡ at + length field = ap (λ k. at + k) (sym size ∙ ap length (sym same)) in
    ap (λ k. drop k new) to ∙ stays ∙ ap (λ k. drop k old) (sym to)
