-- What each step on the table tells the seat that makes it.
use Rattle.std.specs.Prelude.{◌≡◌, ◌≢◌, ℕ, ◌-◌, ◌%◌, ◌^◌, ◌≤◌, true, false, List, [], ◌∷◌, ◌++◌, length, Option, Some}
use Rattle.atomic_table.specs.Table.{Me, Step}
use Rattle.std.specs.List.{range_with_len}
use Rattle.turn_lock.specs.Lists.{count_of, head_or, tail}
use Rattle.turn_lock.specs.Rule.{before_at, numbers}
use Rattle.turn_lock.specs.declared.table.Content.{Content}
use Rattle.turn_lock.specs.declared.table.SeatState.{SeatState}
use Rattle.turn_lock.specs.declared.table.Stage.{Stage}
use Rattle.turn_lock.specs.declared.table.Stage.TheVariants.{Idle, Waiting, Serving}

module _ {E : Type 0} where
  -- the seat of a new lock
  abbrev pub opening_seat : ℕ → SeatState E
  opening_seat callers = record {
    live = true;
    stage = Idle;
    caller = 0;
    own = [];
    joined = [];
    spare = range_with_len 1 (callers - 1);
  }

  -- what is left of a seat that another joined
  abbrev pub spent_seat : SeatState E
  spent_seat = record {
    live = false;
    stage = Idle;
    caller = 0;
    own = [];
    joined = [];
    spare = [];
  }

  -- the seat without its least spare number
  abbrev pub kept_part : SeatState E → SeatState E
  kept_part seat = record seat { spare = tail seat.spare }

  -- a new seat with that number
  abbrev pub given_part : SeatState E → SeatState E
  given_part seat = record {
    live = true;
    stage = Idle;
    caller = head_or 0 seat.spare;
    own = [];
    joined = [];
    spare = [];
  }

  -- the seat with what the other had
  abbrev pub both_parts : SeatState E → SeatState E → SeatState E
  both_parts seat other = record seat {
    joined = seat.joined ++ (other.caller, other.own) ∷ other.joined;
    spare = seat.spare ++ other.spare;
  }

  abbrev pub at_stage : Stage E → SeatState E → SeatState E
  at_stage stage seat = record seat { stage = stage }

  -- the seat after it has passed on the entry
  abbrev pub after_turn : E → SeatState E → SeatState E
  after_turn e seat = record seat {
    stage = Idle;
    own = seat.own ++ (length (before_at seat.stage), e) ∷ [];
  }

-- a seat with the slot that it has out
abbrev pub Holder : Type 0 → Type 0 → Type 0
Holder T E = Me (Option (Content T E)) (SeatState E)

abbrev StepOf : Type 0 → Type 0 → Type 0
StepOf T E = Step (Option (Content T E))

module _ {T E : Type 0} where
  -- the number found is the seat's ticket
  abbrev pub DrewTicket : StepOf T E → Holder T E → ℕ → Holder T E → Type 0
  DrewTicket step before found after = (drawn : ℕ)
      × (drawn % 2 ^ 64 ≡ found)
      × (after ≡ (at_stage (Waiting drawn) before.0, before.1))

  -- the seat took the slot, whose value and chain mean something to it
  abbrev pub TookContent : (SeatState E → T → List E → Type 0) → Holder T E → Holder T E → Type 0
  TookContent means before after = (content : Content T E)
      × (after ≡ (at_stage (Serving content.chain) before.0, (0, Some content) ∷ before.1))
      × means before.0 content.value content.chain

  -- a waiting seat that finds its ticket served has the value, and else is as it was
  abbrev pub LookedAtServing : (SeatState E → T → List E → Type 0)
      → StepOf T E → Holder T E → ℕ → Holder T E → Type 0
  LookedAtServing means step before found after = (ticket : ℕ)
      → before.0.stage ≡ Waiting ticket
      → (found ≡ ticket % 2 ^ 64 → TookContent means before after)
      × (found ≢ ticket % 2 ^ 64 → after ≡ before)

  -- a seat that put back a chain with one entry more has passed on that entry
  abbrev pub PassedOn : StepOf T E → Holder T E → ℕ → Holder T E → Type 0
  PassedOn step before found after = (content : Content T E) (e : E)
      → before.1 ≡ (0, Some content) ∷ []
      → content.chain ≡ before_at before.0.stage ++ e ∷ []
      → (found ≡ length (before_at before.0.stage) % 2 ^ 64)
      × (after ≡ (after_turn e before.0, []))

  -- no number of the seat stands in it twice
  abbrev pub CountedNumbers : StepOf T E → Holder T E → ℕ → Holder T E → Type 0
  CountedNumbers step before found after =
      (after ≡ before) × ((number : ℕ) → count_of number (numbers before.0) ≤ 1)

  -- a seat that has a ticket out, which is the number given modulo 2^64
  pub record IsWaiting (me : Holder T E) (reduced : ℕ) : Type 0 where
    pub live : me.0.live ≡ true
    pub ticket : ℕ
    pub stage : me.0.stage ≡ Waiting ticket
    pub reduces : ticket % 2 ^ 64 ≡ reduced
    pub empty : me.1 ≡ []
