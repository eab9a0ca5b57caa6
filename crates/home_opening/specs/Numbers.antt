-- Which numbers of the platform's lock seats have, when some of them are with accounts, and what seats know.
use Rattle.std.specs.Prelude.{◌≡◌, ◌⊎◌, ℕ, List, [], ◌∷◌, map, Option, None, Some, Contains}
use Rattle.share_api.specs.Places.{steps_of}
use Rattle.share_api.specs.Seen.{HasFailed}
use Rattle.share_api.specs.declared.step.Step.{Step}
use Rattle.turn_lock.specs.Lists.{count_of}
use Rattle.turn_lock.specs.Seats.{SeatView}
use Rattle.platform_lock.specs.Seats.{AccountView}
use Rattle.home_locks.specs.Closing.{account_at}
use Rattle.home_opening.specs.Locks.{AccountSeen}

-- each number stands in both as often
abbrev pub AreSameNumbers : List ℕ → List ℕ → Type 0
AreSameNumbers left right = (number : ℕ) → count_of number left ≡ count_of number right

-- the numbers of the accounts' seats
abbrev pub numbers_at : List AccountSeen → List ℕ
numbers_at accounts = map (λ (seen : AccountSeen). account_at seen.at.seat) accounts

-- what the seat knows: its own number with its steps, and those that it joined
abbrev pub known_by : SeatView Step → List (ℕ × List (ℕ × Step))
known_by seat = (seat.caller, seat.own) ∷ seat.joined

-- the steps that an account's seat knows, where there is one
abbrev pub steps_at : Option AccountView → List (ℕ × Step)
steps_at None = []
steps_at (Some own) = own.seat.own

-- what the accounts' first seats know
abbrev pub known_at : List AccountSeen → List (ℕ × List (ℕ × Step))
known_at accounts = map (λ (seen : AccountSeen). (account_at seen.at.seat, steps_at seen.at.seat)) accounts

-- the seat knows just these steps of this number
abbrev pub KnowsSteps : SeatView Step → ℕ → List (ℕ × Step) → Type 0
KnowsSteps seat number own = Contains (known_by seat) (number, own)

-- one of these lists of steps has a step that failed
abbrev pub OneFailed : List (ℕ × List (ℕ × Step)) → Type 0
OneFailed [] = ⊥
OneFailed (known ∷ all) = HasFailed (steps_of known.1) ⊎ OneFailed all

-- the seat knows of a step that failed
abbrev pub KnowsFailure : SeatView Step → Type 0
KnowsFailure seat = OneFailed (known_by seat)
