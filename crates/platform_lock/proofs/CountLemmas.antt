-- How far a count of faults rises along a list of steps.
use Rattle.std.proofs.Common.{ℕ, zero, suc, ◌+◌, ◌-◌, ◌^◌, ◌≤◌, List, [], ◌∷◌, min, ⊎_elim, arith}
use Rattle.share_api.specs.declared.step.Step.{Step}
use Rattle.platform_lock.specs.Devices.{FaultsRose, HaveFailed}

-- it never falls
never_falls : (before now : ℕ) (chain : List Step) → FaultsRose before chain now → before ≤ now
never_falls before now [] rose = omega (arith, rose)
never_falls before now (step ∷ chain) rose =
    let later = rose.1.later in
    let rest = never_falls rose.0 now chain rose.2 in
    omega (arith, later, rest)

-- it rises at least as often as a step failed, up to the end of a u64
pub counted : (before now n : ℕ) (chain : List Step) → FaultsRose before chain now → HaveFailed n chain
    → min (before + n) (2 ^ 64 - 1) ≤ now
counted before now zero chain rose failed =
    let later = never_falls before now chain rose in omega (arith, later)
counted before now (suc n) [] rose failed = absurd failed
counted before now (suc n) (step ∷ chain) rose failed =
    let later = rose.1.later in
    ⊎_elim
    (λ rest.
    let more = counted rose.0 now (suc n) chain rose.2 rest in omega (arith, later, more))
    (λ both.
    let one = rose.1.rose both.0 in
    let more = counted rose.0 now n chain rose.2 both.1 in omega (arith, one, more))
    failed
