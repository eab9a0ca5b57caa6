-- Which lists of pairs (attempts, seconds) are a delay schedule.
use Rattle.std.specs.Prelude.{◌≡◌, ℕ, zero, suc, ◌+◌, ◌-◌, ◌<◌, ◌≤◌, ◌↔◌, ◌⊎◌, Bool, true, ◌==◌, ◌&&◌, ◌||◌, nat_lt, nat_le, not, if◌then◌else◌, List, length, slice_index_or}
use Rattle.pw_types.specs.declared.schedule.ScheduleFault.{ScheduleFault}
use Rattle.pw_types.specs.declared.schedule.ScheduleFault.TheVariants.{BadSchedule}

-- the seconds that mean locked
abbrev pub locked : ℕ
locked = 4294967295

-- the pair at index k
abbrev pub pair_at : List (ℕ × ℕ) → ℕ → ℕ × ℕ
pair_at pairs k = slice_index_or pairs k (0, 0)

-- the pair at index k keeps the rules: 1 to 1,000 attempts, both numbers rise, and the last pair alone locks
pub record KeepsRules (pairs : List (ℕ × ℕ)) (k : ℕ) : Type 0 where
  pub least : 1 ≤ (pair_at pairs k).0
  pub most : (pair_at pairs k).0 ≤ 1000
  pub attempts_rise : (j : ℕ) → j + 1 ≡ k → (pair_at pairs j).0 < (pair_at pairs k).0
  pub seconds_rise : (j : ℕ) → j + 1 ≡ k → (pair_at pairs j).1 < (pair_at pairs k).1
  pub locks : ((pair_at pairs k).1 ≡ locked) ↔ (k + 1 ≡ length pairs)

-- 1 to 16 pairs, each of which keeps the rules
pub record IsSchedule (pairs : List (ℕ × ℕ)) : Type 0 where
  pub some : 1 ≤ length pairs
  pub few : length pairs ≤ 16
  pub rules : (k : ℕ) → k < length pairs → KeepsRules pairs k

-- the attempts of the last pair: so many wrong tries lock
abbrev pub limit_of : List (ℕ × ℕ) → ℕ
limit_of pairs = (pair_at pairs (length pairs - 1)).0

-- the pair at index k is the first that breaks a rule
pub record IsFirstBad (pairs : List (ℕ × ℕ)) (k : ℕ) : Type 0 where
  pub inside : k < length pairs
  pub before : (j : ℕ) → j < k → KeepsRules pairs j
  pub bad : ¬ KeepsRules pairs k

-- there are no pairs, or more than 16
abbrev pub IsBadCount : List (ℕ × ℕ) → Type 0
IsBadCount pairs = (length pairs ≡ 0) ⊎ (16 < length pairs)

-- the fault names the first pair that breaks a rule, counted from 1, and 0 where the count of pairs is wrong
abbrev pub IsFaultOf : List (ℕ × ℕ) → ScheduleFault → Type 0
IsFaultOf pairs (BadSchedule place) =
    ((place ≡ 0) × IsBadCount pairs)
    ⊎ ((k : ℕ) × ((place ≡ k + 1) × ((length pairs ≤ 16) × IsFirstBad pairs k)))

-- the rules of the pair at index k, as a test
abbrev pub keeps_rules : List (ℕ × ℕ) → ℕ → Bool
keeps_rules pairs k =
    nat_le 1 (pair_at pairs k).0 && nat_le (pair_at pairs k).0 1000
    && (k == 0 || (nat_lt (pair_at pairs (k - 1)).0 (pair_at pairs k).0 && nat_lt (pair_at pairs (k - 1)).1 (pair_at pairs k).1))
    && (if k + 1 == length pairs then (pair_at pairs k).1 == locked else not ((pair_at pairs k).1 == locked))

-- the rules of the first n pairs, as a test
abbrev pub keep_rules_below : List (ℕ × ℕ) → ℕ → Bool
keep_rules_below pairs zero = true
keep_rules_below pairs (suc n) = keeps_rules pairs n && keep_rules_below pairs n

-- whether pairs are a schedule, for readers of records
unfoldable pub is_schedule : List (ℕ × ℕ) → Bool
is_schedule pairs = nat_le 1 (length pairs) && nat_le (length pairs) 16 && keep_rules_below pairs (length pairs)
