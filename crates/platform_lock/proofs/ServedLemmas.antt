-- The platform behind its lock, after a step.
use Rattle.std.proofs.Common.{◌≡◌, ℕ, ◌%◌, ◌^◌, List, [], ◌∷◌, ◌++◌, length, refl, ap, ◌∙◌, subst}
use Rattle.fault_count.specs.Causes.{HasCause}
use Rattle.share_api.specs.declared.step.Reply.TheVariants.{Failed}
use Rattle.share_api.specs.declared.step.Step.{Step}
use Rattle.turn_lock.specs.Seats.{SeatView, seat_after}
use Rattle.platform_lock.specs.Devices.{DeviceSeen, IsSameDevice, FaultsRose, IsServed}
use Rattle.platform_lock.specs.Seats.{AddsStep}

-- what stays the same twice is the same
same_device_then : (one two three : DeviceSeen) → IsSameDevice one two → IsSameDevice two three → IsSameDevice one three
same_device_then one two three first next = record {
  owners = next.owners ∙ first.owners;
  era = next.era ∙ first.era;
  lost = next.lost ∙ first.lost;
}

-- one step more, in which the count rose where it failed
rose_more : (before mid now : ℕ) (chain : List Step) (step : Step)
    → FaultsRose before chain mid
    → HasCause mid now (step.reply ≡ Failed)
    → FaultsRose before (chain ++ step ∷ []) now
rose_more before mid now [] step rose cause =
    (now, subst (λ (n : ℕ). HasCause n now (step.reply ≡ Failed)) rose cause, refl)
rose_more before mid now (first ∷ chain) step rose cause =
    (rose.0, rose.1, rose_more rose.0 mid now chain step rose.2 cause)

-- a platform that was served stands with one step more
pub served_more : {D : Type 0} (seen_of : D → DeviceSeen) (stands : D → D → List Step → Type 0) (first old new : D)
    (chain : List Step) (step : Step)
    → IsServed seen_of stands first old chain
    → stands first new (chain ++ step ∷ [])
    → IsSameDevice (seen_of old) (seen_of new)
    → HasCause (seen_of old).faults (seen_of new).faults (step.reply ≡ Failed)
    → IsServed seen_of stands first new (chain ++ step ∷ [])
served_more seen_of stands first old new chain step served stood same cause = record {
  chain_stands = stood;
  same = same_device_then (seen_of first) (seen_of old) (seen_of new) served.same same;
  rose = rose_more (seen_of first).faults (seen_of old).faults (seen_of new).faults chain step served.rose cause;
}

-- a seat that left a step as its entry has that step more
pub adds_step : (old held new : SeatView Step) (before : List Step) (left wanted : Step) (told : ℕ)
    → held ≡ old
    → left ≡ wanted
    → new ≡ seat_after held before left
    → told ≡ length before % 2 ^ 64
    → AddsStep old new told wanted
adds_step old held new before left wanted told same is after at = (
  length before,
  at,
  after ∙ ap (λ (seat : SeatView Step). seat_after seat before left) same
      ∙ ap (λ (step : Step). seat_after old before step) is,
)
