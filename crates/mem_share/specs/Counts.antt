-- Which calls of a share in memory fail.
use Rattle.std.specs.Prelude.{◌≡◌, ◌⊎◌, ℕ, ◌+◌, ◌-◌, ◌^◌, min, Bool, Option, None, Some}
use Rattle.fault_count.specs.Causes.{Rose}
use Rattle.mem_share.specs.Fails.{listed_at}
use Rattle.mem_share.specs.declared.calls.CallList.{CallList}

-- the number of the next call
abbrev pub next_number : CallList → ℕ
next_number calls = min (calls.made + 1) (2 ^ 64 - 1)

-- whether the list names the next call, and if so whether its change is done
abbrev pub next_listed : CallList → Option Bool
next_listed calls = listed_at calls.fails.items (next_number calls)

-- One call. It fails where the list names it, or where there is no memory for its change; then the
-- count of these rises.
pub record Counts (old new : CallList) (Failing : Type 0) : Type 0 where
  pub fails : new.fails ≡ old.fails
  pub made : new.made ≡ next_number old
  pub listed : (is_done : Bool) → next_listed old ≡ Some is_done → Failing × (new.starved ≡ old.starved)
  pub free : next_listed old ≡ None → ((Failing → ⊥) × (new.starved ≡ old.starved)) ⊎ (Failing × Rose old.starved new.starved)
