-- Refusals that don't apply.
use Rattle.std.proofs.Common.{◌≡◌, ℕ, zero, suc, Bool, true, false, None, List, [], ◌∷◌, refl}
use Rattle.account_machine.specs.declared.answer.Refused.{Refused}
use Rattle.account_machine.specs.Row.{first_refusal}

-- the n-th test of a row
abbrev pub applies_at : List (Bool × Refused) → ℕ → Bool
applies_at [] n = false
applies_at (test ∷ tests) zero = test.0
applies_at (test ∷ tests) (suc n) = applies_at tests n

first_none : (b : Bool) (r : Refused) (tests : List (Bool × Refused)) → first_refusal ((b, r) ∷ tests) ≡ None
    → (b ≡ false) × (first_refusal tests ≡ None)
first_none true r tests none = cc
first_none false r tests none = (refl, none)

-- where no refusal applies the n-th doesn't
pub test_at : (tests : List (Bool × Refused)) → first_refusal tests ≡ None → (n : ℕ) → applies_at tests n ≡ false
test_at [] none n = refl
test_at (test ∷ tests) none zero = (first_none test.0 test.1 tests none).0
test_at (test ∷ tests) none (suc n) = test_at tests (first_none test.0 test.1 tests none).1 n
