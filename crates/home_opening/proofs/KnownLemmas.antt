-- What a seat knows stays known when seats are joined, and when accounts are closed.
use Rattle.std.proofs.Common.{◌≡◌, ℕ, ◌+◌, List, [], ◌∷◌, ◌++◌, map, reverse, Ok, ⊎_elim, inl, inr, sym, ap, subst}
use Rattle.std.specs.List.{AllByRecursion, Contains}
use Rattle.std.proofs.lemmas.List.{reverse-append}
use Rattle.std.proofs.lemmas.List.Elements.{Contains-append_left, Contains-append_right}
use Rattle.home_image.proofs.ListLemmas.{all-both}
use Rattle.share_api.specs.declared.step.Step.{Step}
use Rattle.turn_lock.specs.Seats.{LockId, SeatView, joined_seat}
use Rattle.platform_lock.specs.Devices.{DeviceSeen}
use Rattle.home_opening.specs.Locks.{AccountSeen}
use Rattle.home_opening.specs.Numbers.{OneFailed, KnowsFailure, KnowsSteps, known_at, known_by, steps_at}
use Rattle.home_opening.specs.Opened.{AreOpenedFrom, AreOpenedLocks, AreOpeningSteps, KnowsOpenings}
use Rattle.home_opening.specs.declared.opening.Opening.{Opening}
use Rattle.home_opening.proofs.NumberLemmas.{account_number}
use Rattle.share_api.specs.Contents.{Bytes}

failed_left : (known others : List (ℕ × List (ℕ × Step))) → OneFailed known → OneFailed (known ++ others)
failed_left [] others failed = absurd failed
failed_left (k ∷ known) others failed = ⊎_elim inl (λ later. inr (failed_left known others later)) failed

failed_right : (known others : List (ℕ × List (ℕ × Step))) → OneFailed others → OneFailed (known ++ others)
failed_right [] others failed = failed
failed_right (k ∷ known) others failed = inr (failed_right known others failed)

-- what either seat knew
pub failure_joined : (seat other : SeatView Step) → KnowsFailure other → KnowsFailure (joined_seat seat other)
failure_joined seat other failed = failed_right (known_by seat) (known_by other) failed

pub steps_joined : (seat other : SeatView Step) (account : ℕ) (own : List (ℕ × Step))
    → KnowsSteps other account own → KnowsSteps (joined_seat seat other) account own
steps_joined seat other account own knows =
    Contains-append_right (known_by seat) (known_by other) (account, own) knows

-- what is known with more behind it
pub failure_kept : (seat whole : SeatView Step) (more : List (ℕ × List (ℕ × Step)))
    → known_by whole ≡ known_by seat ++ more → KnowsFailure seat → KnowsFailure whole
failure_kept seat whole more is failed = subst OneFailed (sym is) (failed_left (known_by seat) more failed)

pub steps_kept : (seat whole : SeatView Step) (more : List (ℕ × List (ℕ × Step)))
    → known_by whole ≡ known_by seat ++ more
    → (account : ℕ) (own : List (ℕ × Step)) → KnowsSteps seat account own → KnowsSteps whole account own
steps_kept seat whole more is account own knows =
    subst (λ (known : List (ℕ × List (ℕ × Step))). Contains known (account, own)) (sym is)
    (Contains-append_left (known_by seat) more (account, own) knows)

-- ---- the openings of accounts

-- what holds of each element holds of each in reverse
all_reversed : {A : Type 0} (P : A → Type 0) (xs : List A) → AllByRecursion P xs → AllByRecursion P (reverse xs)
all_reversed P [] all = tt
all_reversed P (x ∷ xs) all =
    subst (AllByRecursion P) (sym (reverse-append (x ∷ []) xs))
    (all-both P (reverse xs) (x ∷ []) (all_reversed P xs all.1) (all.0, tt))

module _ (device : DeviceSeen) (shared : LockId) (opening : Opening) where
  abbrev OfOpening : ℕ × List (ℕ × Step) → Type 0
  OfOpening known = AreOpeningSteps device shared opening known.0 known.1

  -- what either seat knew are openings
  pub openings_joined : (seat other : SeatView Step) → KnowsOpenings device shared opening seat
      → KnowsOpenings device shared opening other
      → KnowsOpenings device shared opening (joined_seat seat other)
  openings_joined seat other left right = all-both OfOpening (known_by seat) (known_by other) left right

  -- each account that was opened knows the steps of its opening
  openings_at : (accounts : List AccountSeen) → AreOpenedLocks device shared opening accounts
      → AllByRecursion OfOpening (known_at accounts)
  openings_at [] opened = tt
  openings_at (seen ∷ accounts) opened =
      let account = opened.0.0 in
      let is = opened.0.2 in
      let number = account_number shared device.era opening.clients account seen.at is.of in
      let steps : steps_at seen.at.seat ≡ is.of.start.seat.own = ap steps_at is.of.start_is in (
        subst OfOpening (λ i. (sym number i, sym steps i))
            (inr (record { name = opened.0.1; owner = is.owner; result = Ok seen.at.state; opens = is.opened })),
        openings_at accounts opened.1,
      )

  -- so does the seat that all these are joined to
  pub openings_closed : (seat whole : SeatView Step) (accounts : List AccountSeen)
      → known_by whole ≡ known_by seat ++ reverse (known_at accounts)
      → KnowsOpenings device shared opening seat
      → AreOpenedLocks device shared opening accounts
      → KnowsOpenings device shared opening whole
  openings_closed seat whole accounts is knows opened =
      subst (AllByRecursion OfOpening) (sym is)
      (all-both OfOpening (known_by seat) (reverse (known_at accounts)) knows
      (all_reversed OfOpening (known_at accounts) (openings_at accounts opened)))

  -- and one that knows these alone
  pub openings_alone : (whole : SeatView Step) (accounts : List AccountSeen)
      → known_by whole ≡ reverse (known_at accounts)
      → AreOpenedLocks device shared opening accounts
      → KnowsOpenings device shared opening whole
  openings_alone whole accounts is opened =
      subst (AllByRecursion OfOpening) (sym is)
      (all_reversed OfOpening (known_at accounts) (openings_at accounts opened))

  -- accounts that were opened in order were opened
  pub each_opened : (account : ℕ) (names : List Bytes) (accounts : List AccountSeen)
      → AreOpenedFrom device shared opening account names (map (λ (seen : AccountSeen). seen.at) accounts)
      → AreOpenedLocks device shared opening accounts
  each_opened account [] [] opened = tt
  each_opened account [] (seen ∷ accounts) opened = absurd opened
  each_opened account (name ∷ names) [] opened = absurd opened
  each_opened account (name ∷ names) (seen ∷ accounts) opened =
      ((account, name, opened.0), each_opened (account + 1) names accounts opened.1)
