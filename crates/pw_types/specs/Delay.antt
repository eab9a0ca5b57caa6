-- The delay rule: when a try may come after so many wrong ones.
use Rattle.std.specs.Prelude.{ℕ, ◌+◌, ◌<◌, ◌≤◌, ◌==◌, nat_lt, nat_le, Option, Some, None, List, length, reverse, find, if◌then◌else◌}
use Rattle.pw_types.specs.Schedule.{locked, pair_at}
use Rattle.pw_types.specs.declared.stamp.Stamp.{Stamp}
use Rattle.pw_types.specs.declared.delay.Readiness.{Readiness}
use Rattle.pw_types.specs.declared.delay.Readiness.TheVariants.{Ready, Delayed, Locked}

-- the last pair whose attempts are at most the count of wrong tries
unfoldable pub deciding : List (ℕ × ℕ) → ℕ → Option (ℕ × ℕ)
deciding pairs wrong = find (λ pair. nat_le pair.0 wrong) (reverse pairs)

-- the moment from which a try may come: after the last wrong try, or after the boot's start where that try was before it
abbrev pub moment_after : ℕ → Stamp → Stamp → ℕ → ℕ
moment_after seconds last now start = (if last.boot == now.boot then last.at else start) + seconds

-- the answer under a deciding pair
abbrev pub readiness_under : Option (ℕ × ℕ) → Stamp → Stamp → ℕ → Readiness
readiness_under None last now start = Ready
readiness_under (Some pair) last now start =
    if pair.1 == locked then Locked
    else if nat_lt now.at (moment_after pair.1 last now start) then Delayed (moment_after pair.1 last now start)
    else Ready

-- whether a try may come after so many wrong ones, of which the last was at a stamp, in a boot that began at a moment
unfoldable pub readiness : List (ℕ × ℕ) → ℕ → Stamp → Stamp → ℕ → Readiness
readiness schedule wrong last now start = readiness_under (deciding schedule wrong) last now start

-- ---- what the laws speak of

-- the pair at index k has been reached, and no later one
pub record IsLastReached (pairs : List (ℕ × ℕ)) (wrong k : ℕ) : Type 0 where
  pub inside : k < length pairs
  pub reached : (pair_at pairs k).0 ≤ wrong
  pub later : (j : ℕ) → k < j → j < length pairs → wrong < (pair_at pairs j).0

-- no pair has been reached
abbrev pub NoneReached : List (ℕ × ℕ) → ℕ → Type 0
NoneReached pairs wrong = (k : ℕ) → k < length pairs → wrong < (pair_at pairs k).0

-- the answer at a moment, where a try waits until another
abbrev pub waiting_until : ℕ → Stamp → Readiness
waiting_until until now = if nat_lt now.at until then Delayed until else Ready

-- the second answer lets no try come sooner than the first
abbrev pub NoSooner : Readiness → Readiness → Type 0
NoSooner Ready _ = Unit {0}
NoSooner (Delayed until) Ready = ⊥
NoSooner (Delayed until) (Delayed later) = until ≤ later
NoSooner (Delayed until) Locked = Unit {0}
NoSooner Locked Ready = ⊥
NoSooner Locked (Delayed later) = ⊥
NoSooner Locked Locked = Unit {0}
