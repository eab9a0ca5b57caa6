-- What a seat's stage says, as tickets are drawn and turns are passed on.
use Rattle.std.proofs.Common.{◌≡◌, ◌≢◌, ℕ, ◌+◌, ◌<◌, ◌≤◌, Bool, true, false, List, [], ◌∷◌, ◌++◌, length, sym, refl, ap, ◌∙◌, arith, length-append}
use mathlib.Core.Logic.{dite}
use native.Mathlib.Decide.{ℕ_discrete}
use Rattle.turn_lock.specs.declared.table.SeatState.{SeatState}
use Rattle.turn_lock.specs.declared.table.Stage.{Stage}
use Rattle.turn_lock.specs.declared.table.Stage.TheVariants.{Idle, Waiting, Serving}
use Rattle.turn_lock.specs.Rule.{out_at, ticket_at, out, ticket, IsStageOf, IsSeatOf, numbers, numbers_if}
use Rattle.turn_lock.specs.Steps.{at_stage, after_turn}

module _ {E : Type 0} where
  -- a seat has at most one ticket out
  out_at-le : (stage : Stage E) → out_at stage ≤ 1
  out_at-le Idle = omega arith
  out_at-le (Waiting ticket) = omega arith
  out_at-le (Serving before) = omega arith

  -- who is idle isn't served
  pub idle_or_served : (entries : List E) → Idle ≡ Serving entries → ⊥
  idle_or_served entries both = let same = ap out_at both in omega arith

  abbrev waits : Stage E → ℕ
  waits Idle = 0
  waits (Waiting ticket) = 1
  waits (Serving before) = 0

  -- nor is who waits
  pub waiting_or_served : (entries : List E) (ticket : ℕ) (stage : Stage E)
      → stage ≡ Serving entries → stage ≡ Waiting ticket → ⊥
  waiting_or_served entries ticket stage served waiting =
      let same = ap waits (sym served ∙ waiting) in omega arith

  -- one ticket more was drawn
  pub stage-drawn : (entries : List E) (drawn : ℕ) (stage : Stage E)
      → IsStageOf entries drawn stage → IsStageOf entries (drawn + 1) stage
  stage-drawn entries drawn Idle is = tt
  stage-drawn entries drawn (Waiting ticket) is = let below = is.1 in (is.0, omega arith)
  stage-drawn entries drawn (Serving before) is = let below = is.1 in (is.0, omega arith)

  -- another seat passed on an entry
  pub stage-passed : (entries : List E) (drawn : ℕ) (e : E) (stage : Stage E)
      → (0 < out_at stage → ticket_at stage ≢ length entries)
      → IsStageOf entries drawn stage
      → IsStageOf (entries ++ e ∷ []) drawn stage
  stage-passed entries drawn e Idle other is = tt
  stage-passed entries drawn e (Waiting ticket) other is =
      let from = is.0 in
      let not_served = other (omega arith) in
      let longer = length-append entries (e ∷ []) in (
        dite (ℕ_discrete ticket (length entries))
            (λ served. absurd (not_served served)) (λ waits. omega arith),
        is.1,
      )
  stage-passed entries drawn e (Serving before) other is =
      absurd (other (omega arith) (ap length is.0))

  -- a ticket that is out was drawn
  ticket_at-lt : (entries : List E) (drawn : ℕ) (stage : Stage E)
      → 0 < out_at stage → IsStageOf entries drawn stage → ticket_at stage < drawn
  ticket_at-lt entries drawn Idle is_out is = absurd (omega arith)
  ticket_at-lt entries drawn (Waiting ticket) is_out is = is.1
  ticket_at-lt entries drawn (Serving before) is_out is =
      let same : length before ≡ length entries = ap length is.0 in
      let below = is.1 in omega arith

  -- the numbers of a seat don't depend on its stage
  pub numbers-at_stage : (live : Bool) (stage : Stage E) (seat : SeatState E)
      → numbers_if live (at_stage stage seat) ≡ numbers_if live seat
  numbers-at_stage false stage seat = refl
  numbers-at_stage true stage seat = refl

  -- nor on its turns
  pub numbers-after_turn : (live : Bool) (e : E) (seat : SeatState E)
      → numbers_if live (after_turn e seat) ≡ numbers_if live seat
  numbers-after_turn false e seat = refl
  numbers-after_turn true e seat = refl

  -- a seat has no more tickets out than it has numbers
  out-le_if : (seat : SeatState E) (live : Bool)
      → seat.live ≡ live
      → (seat.live ≡ false → seat.stage ≡ Idle)
      → out seat ≤ length (numbers_if live seat)
  out-le_if seat false spent rests =
      let none : out seat ≡ 0 = ap out_at (rests spent) in omega arith
  out-le_if seat true alive rests = let most = out_at-le seat.stage in omega arith

  pub out-le-numbers : (seat : SeatState E)
      → (seat.live ≡ false → seat.stage ≡ Idle) → out seat ≤ length (numbers seat)
  out-le-numbers seat rests = out-le_if seat seat.live refl rests

module _ {E : Type 0} (caller_of : E → ℕ) (entries : List E) (drawn : ℕ) where
  ticket-lt_if : (seat : SeatState E) (live : Bool)
      → seat.live ≡ live
      → IsSeatOf caller_of entries drawn seat
      → 0 < out seat
      → ticket seat < drawn
  ticket-lt_if seat true alive known is_out =
      ticket_at-lt entries drawn seat.stage is_out (known.0 alive).stage
  ticket-lt_if seat false spent known is_out =
      let none : out seat ≡ 0 = ap out_at (known.1 spent) in absurd (omega arith)

  -- each seat's ticket was drawn
  pub ticket-lt-drawn : (seat : SeatState E)
      → IsSeatOf caller_of entries drawn seat → 0 < out seat → ticket seat < drawn
  ticket-lt-drawn seat known is_out = ticket-lt_if seat seat.live refl known is_out
