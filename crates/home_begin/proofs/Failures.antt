-- What a seat knows of failed steps is in the chain.
use Rattle.std.proofs.Common.{◌≡◌, ℕ, ◌+◌, Bool, true, false, List, [], ◌∷◌, ◌++◌, map, All, refl, sym, ap, subst, ⊎_elim, inl, inr}
use Rattle.std.specs.Prelude.{if◌then◌else◌, ◌==◌}
use Rattle.std.specs.List.{AllByRecursion}
use Rattle.std.proofs.lemmas.List.Elements.{recursion_from_All}
use Rattle.share_api.specs.Places.{steps_of}
use Rattle.share_api.specs.Seen.{HasFailed}
use Rattle.share_api.specs.declared.step.Step.{Step}
use Rattle.turn_lock.specs.Lists.{entries_from, entries_of}
use Rattle.turn_lock.specs.Seats.{SeatView, Recalls}
use Rattle.platform_lock.specs.Devices.{account_of}
use Rattle.home_opening.specs.Numbers.{KnowsFailure, OneFailed}

-- a failed step among those of an account is one of the chain
failed_among : (place account : ℕ) (chain : List Step)
    → HasFailed (steps_of (entries_from account_of place account chain))
    → HasFailed chain
failed_among place account [] failed = failed
failed_among place account (step ∷ chain) failed =
    by (account_of step == account) (failed_among (place + 1) account chain) failed
  where
    by : (own : Bool) → (HasFailed (steps_of (entries_from account_of (place + 1) account chain)) → HasFailed chain)
        → HasFailed (steps_of ((if own then (place, step) ∷ [] else [])
        ++ entries_from account_of (place + 1) account chain)) → HasFailed (step ∷ chain)
    by true others (inl here) = inl here
    by true others (inr later) = inr (others later)
    by false others later = inr (others later)

one_failed : (chain : List Step) (known : List (ℕ × List (ℕ × Step)))
    → AllByRecursion (λ known. entries_of account_of known.0 chain ≡ known.1) known
    → OneFailed known → HasFailed chain
one_failed chain [] recalled failed = absurd failed
one_failed chain (known ∷ all) recalled (inl here) =
    failed_among 0 known.0 chain (subst (λ (own : List (ℕ × Step)). HasFailed (steps_of own)) (sym recalled.0) here)
one_failed chain (known ∷ all) recalled (inr later) = one_failed chain all recalled.1 later

-- where the seat recalls the chain, a step that it knows to have failed is one of the chain
pub known_failure : (chain : List Step) (seat : SeatView Step) → Recalls account_of chain seat → KnowsFailure seat
    → HasFailed chain
known_failure chain seat recalls failed =
    one_failed chain ((seat.caller, seat.own) ∷ seat.joined)
    (recalls.own, recursion_from_All _ seat.joined recalls.joined) failed
