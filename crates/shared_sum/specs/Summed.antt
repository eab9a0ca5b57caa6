-- What the sum is to the entries.
use Rattle.std.specs.Prelude.{◌≡◌, ℕ, ◌+◌, ◌%◌, ◌^◌, List, [], ◌∷◌, sum_by}
use Rattle.shared_sum.specs.declared.sum.Sum.{Sum}
use Rattle.shared_sum.specs.declared.sum.Added.{Added}

abbrev pub caller_of : Added → ℕ
caller_of entry = entry.caller

abbrev pub amount_of : Added → ℕ
amount_of entry = entry.amount

-- each entry has the sum after it, where the first has this sum before it
abbrev pub HaveSums : ℕ → List Added → Type 0
HaveSums before [] = Unit {0}
HaveSums before (entry ∷ entries) =
    (entry.total ≡ (before + entry.amount) % 2 ^ 64) × HaveSums entry.total entries

-- the sum is the first one and all that was added, and each entry has the sum after it
pub record IsSumOf (first now : Sum) (entries : List Added) : Type 0 where
  pub total : now.total ≡ (first.total + sum_by amount_of entries) % 2 ^ 64
  pub each : HaveSums first.total entries
