-- How a schedule is kept: its pairs in front, and zero pairs behind.
use Rattle.std.specs.Prelude.{◌≡◌, ℕ, ◌-◌, ◌≤◌, List, ◌++◌, length, take, drop, replicate}
use Rattle.std.proofs.Common.{arith}
use Rattle.std.proofs.lemmas.List.{length-take-le, take-append-drop}
use Rattle.pw_types.specs.Schedule.{IsSchedule}

pub record IsKept (pairs : List (ℕ × ℕ)) (count : ℕ) : Type 0 where
  pub size : length pairs ≡ 16
  pub inside : count ≤ 16
  pub unused : drop count pairs ≡ replicate (16 - count) (0, 0)
  pub schedule : IsSchedule (take count pairs)

-- the pairs in front give back the count, and with zero pairs behind them the whole
pub kept_count : (pairs : List (ℕ × ℕ)) (count : ℕ) → IsKept pairs count → length (take count pairs) ≡ count
kept_count pairs count kept = length-take-le count pairs (omega (arith, kept.size, kept.inside))

pub kept_pairs : (pairs : List (ℕ × ℕ)) (count : ℕ) → IsKept pairs count → take count pairs ++ replicate (16 - length (take count pairs)) (0, 0) ≡ pairs
kept_pairs pairs count kept = rw (kept_count pairs count kept) (rw (← kept.unused) (take-append-drop count pairs))
