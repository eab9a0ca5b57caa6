-- Claims by cases.
use Rattle.std.proofs.Common.{◌≡◌, Bool, true, false, cond, Result, Ok, Err, refl}

-- a claim of each side of a choice
pub on_cond : {A : Type 0} (P : A → Type 0) (b : Bool) (x y : A) → (b ≡ true → P x) → (b ≡ false → P y) → P (cond b x y)
on_cond P true x y f g = f refl
on_cond P false x y f g = g refl

-- a claim of each outcome
pub on_result : {A E : Type 0} (P : Result A E → Type 0) (r : Result A E) → ((a : A) → r ≡ Ok a → P (Ok a)) → ((e : E) → r ≡ Err e → P (Err e)) → P r
on_result P (Ok a) f g = f a refl
on_result P (Err e) f g = g e refl
