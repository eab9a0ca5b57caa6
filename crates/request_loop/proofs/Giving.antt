-- The numbers that a clock in memory gives.
use Rattle.std.proofs.Common.{◌≡◌, ℕ, ◌+◌, ◌-◌, ◌^◌, ◌<◌, List, [], ◌∷◌, ◌++◌, length, take, get_or, min, sym, ap, ◌∙◌, arith, inl, inr}
use Rattle.std.proofs.lemmas.Bool.{cases_lt, lt-leb, le-leb}
use Rattle.std.proofs.lemmas.List.{take_more}
use Rattle.fault_count.specs.Told.{Gives}
use Rattle.request_loop.specs.Memory.{next_call, given_by}

-- one more number of the list, or one past its end, after which nothing is told
pub gives-next : (numbers : List ℕ) (calls next number : ℕ) → length numbers < 2 ^ 64 - 1 → next ≡ next_call calls
    → number ≡ get_or numbers (min calls (length numbers - 1)) 0
    → Gives (given_by (record { numbers = numbers; calls = calls })) (given_by (record { numbers = numbers; calls = next })) (number ∷ [])
gives-next numbers calls next number few step is =
    elim (cases_lt (length numbers) next) [
      | inl past ↦ rw (lt-leb next (length numbers) past) tt
      | inr within ↦
          let one : next ≡ calls + 1 = omega arith in
          let low : calls < length numbers = omega arith in
          let place : min calls (length numbers - 1) ≡ calls = omega arith in
          rw (le-leb next (length numbers) within, le-leb calls (length numbers) (omega arith))
          (ap (λ count. take count numbers) one ∙ (take_more numbers calls 0 low
          ∙ ap (λ number. take calls numbers ++ number ∷ []) (sym (is ∙ ap (λ place. get_or numbers place 0) place))))
    ]
