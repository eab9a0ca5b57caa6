-- Names have no zero byte, so one behind a name ends it.
use Rattle.std.proofs.Common.{◌≡◌, ℕ, Bool, true, false, List, [], ◌∷◌, ◌++◌, refl, sym, ap, ◌∙◌}
use Rattle.std.proofs.lemmas.Bool.{and_parts}
use Rattle.std.specs.List.{list_all}
use Rattle.home_names.specs.Names.{is_name_byte}

-- a byte of a name isn't zero
name_byte_is_not_zero : is_name_byte 0 ≡ false
name_byte_is_not_zero = refl

not_zero : (byte : ℕ) → is_name_byte byte ≡ true → byte ≡ 0 → ⊥
not_zero byte plain zero_is =
    let same : ◌≡◌ {A = Bool} true false = sym plain ∙ ap is_name_byte zero_is in absurd cc

-- names without zero bytes, each with a zero byte behind it, end at the same place
pub split_at_zero : (a b x y : List ℕ) → list_all is_name_byte a ≡ true → list_all is_name_byte b ≡ true
    → (a ++ 0 ∷ []) ++ x ≡ (b ++ 0 ∷ []) ++ y → (a ≡ b) × (x ≡ y)
split_at_zero [] [] x y plain other e = (refl, cc)
split_at_zero [] (q ∷ b) x y plain other e = absurd (not_zero q (and_parts _ _ other).0 cc)
split_at_zero (p ∷ a) [] x y plain other e = absurd (not_zero p (and_parts _ _ plain).0 cc)
split_at_zero (p ∷ a) (q ∷ b) x y plain other e =
    let head : p ≡ q = cc in
    let tail : (a ++ 0 ∷ []) ++ x ≡ (b ++ 0 ∷ []) ++ y = cc in
    let rest = split_at_zero a b x y (and_parts _ _ plain).1 (and_parts _ _ other).1 tail in
    (λ i. head i ∷ rest.0 i, rest.1)
