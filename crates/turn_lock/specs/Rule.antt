-- The rule of the table behind a lock, which holds between any two steps.
use Rattle.std.specs.Prelude.{◌≡◌, ◌≢◌, ◌⊎◌, ℕ, ◌+◌, ◌%◌, ◌^◌, ◌<◌, ◌≤◌, Bool, true, false, List, [], ◌∷◌, ◌++◌, map, length, Option, Some, All}
use Rattle.std.specs.List.{AllByRecursion}
use Rattle.atomic_table.specs.Table.{State}
use Rattle.std.specs.List.{sum_by}
use Rattle.turn_lock.specs.Lists.{count_of, entries_of}
use Rattle.turn_lock.specs.declared.table.Content.{Content}
use Rattle.turn_lock.specs.declared.table.SeatState.{SeatState}
use Rattle.turn_lock.specs.declared.table.Stage.{Stage}
use Rattle.turn_lock.specs.declared.table.Stage.TheVariants.{Idle, Waiting, Serving}
use mathlib.Core.Option as maybe
use mathlib.Core.Option.{some, none}
use lib.ListN.{get_elem?}

module _ {E : Type 0} where
  -- 1 where a ticket is out
  abbrev pub out_at : Stage E → ℕ
  out_at Idle = 0
  out_at (Waiting ticket) = 1
  out_at (Serving before) = 1

  -- The ticket that is out. A served ticket is as many as the entries before it.
  abbrev pub ticket_at : Stage E → ℕ
  ticket_at Idle = 0
  ticket_at (Waiting ticket) = ticket
  ticket_at (Serving before) = length before

  -- The tickets lie from the one that is served up to the next to be drawn, and who is served knows
  -- the entries.
  abbrev pub IsStageOf : List E → ℕ → Stage E → Type 0
  IsStageOf entries drawn Idle = Unit {0}
  IsStageOf entries drawn (Waiting ticket) = (length entries ≤ ticket) × (ticket < drawn)
  IsStageOf entries drawn (Serving before) = (before ≡ entries) × (length entries < drawn)

  -- the entries so far, as a served seat knows them
  abbrev pub before_at : Stage E → List E
  before_at Idle = []
  before_at (Waiting ticket) = []
  before_at (Serving before) = before

  abbrev pub numbers_if : Bool → SeatState E → List ℕ
  numbers_if false seat = []
  numbers_if true seat = seat.caller ∷ (map (λ known. known.0) seat.joined ++ seat.spare)

  -- the numbers of a seat; a spent one has none
  abbrev pub numbers : SeatState E → List ℕ
  numbers seat = numbers_if seat.live seat

  abbrev pub out : SeatState E → ℕ
  out seat = out_at seat.stage

  abbrev pub ticket : SeatState E → ℕ
  ticket seat = ticket_at seat.stage

  -- what a seat that isn't spent knows
  pub record IsLive (caller_of : E → ℕ) (entries : List E) (drawn : ℕ) (seat : SeatState E)
      : Type 0 where
    pub stage : IsStageOf entries drawn seat.stage
    pub own : entries_of caller_of seat.caller entries ≡ seat.own
    pub joined : AllByRecursion
        (λ known. entries_of caller_of known.0 entries ≡ known.1) seat.joined
    pub spare : AllByRecursion
        (λ number. entries_of caller_of number entries ≡ []) seat.spare

  -- what the seat knows of its numbers is their entries among these
  pub record IsKnown (caller_of : E → ℕ) (entries : List E) (seat : SeatState E) : Type 0 where
    pub own : entries_of caller_of seat.caller entries ≡ seat.own
    pub joined : All (λ known. entries_of caller_of known.0 entries ≡ known.1) seat.joined
    pub spare : All (λ number. entries_of caller_of number entries ≡ []) seat.spare

  -- what holds of any seat
  abbrev pub IsSeatOf : (E → ℕ) → List E → ℕ → SeatState E → Type 0
  IsSeatOf caller_of entries drawn seat =
      (seat.live ≡ true → IsLive caller_of entries drawn seat)
      × (seat.live ≡ false → seat.stage ≡ Idle)

  -- no two seats have one ticket out
  abbrev pub HaveOwnTickets : List (SeatState E) → Type 0
  HaveOwnTickets seats = (i j : ℕ) (one other : SeatState E)
      → i ≢ j
      → get_elem? seats i ≡ some one
      → get_elem? seats j ≡ some other
      → 0 < out one
      → 0 < out other
      → ticket one ≢ ticket other

  -- how often the seats have a number
  abbrev pub count_in : ℕ → List (SeatState E) → ℕ
  count_in number seats = sum_by (λ seat. count_of number (numbers seat)) seats

  -- each number below the bound belongs to one seat, and no other number to any
  abbrev pub ShareNumbers : ℕ → List (SeatState E) → Type 0
  ShareNumbers callers seats = (number : ℕ)
      → (number < callers → count_in number seats ≡ 1)
      × (callers ≤ number → count_in number seats ≡ 0)

  -- the seat j is served, and knows the entries
  abbrev pub IsServed : List E → ℕ → List (SeatState E) → Type 0
  IsServed entries j seats = (seat : SeatState E)
      × (get_elem? seats j ≡ some seat) × (seat.stage ≡ Serving entries)

-- the table's one slot: it has some content, or is out with a seat
abbrev pub Homes : Type 0 → Type 0 → Type 0
Homes T E = List (maybe.Option (Option (Content T E)))

module _ {T E : Type 0} where
  -- the value is at home, and stands with its chain, which has the entries
  abbrev pub IsHome : (T → List E → Type 0) → List E → Homes T E → Type 0
  IsHome means entries homes = (content : Content T E)
      × (homes ≡ some (Some content) ∷ [])
      × (content.chain ≡ entries)
      × means content.value entries

  -- the value is out with the seat that is served
  abbrev pub IsAway : List E → Homes T E → List (SeatState E) → Type 0
  IsAway entries homes seats = (homes ≡ none ∷ []) × ((j : ℕ) × IsServed entries j seats)

  -- The rule. `entries` are those passed on, and `drawn` counts the tickets drawn, neither of them
  -- reduced, as the two words are. `means` is what a value at home is to the entries.
  pub record HoldsOf (caller_of : E → ℕ) (means : T → List E → Type 0) (callers : ℕ)
      (s : State (Option (Content T E)) (SeatState E)) : Type 0 where
    pub entries : List E
    pub drawn : ℕ
    pub few : callers < 2 ^ 32
    pub words_are : s.words ≡ drawn % 2 ^ 64 ∷ length entries % 2 ^ 64 ∷ []
    pub tickets : length entries + sum_by out s.views ≡ drawn
    pub seats : (j : ℕ) (seat : SeatState E)
        → get_elem? s.views j ≡ some seat → IsSeatOf caller_of entries drawn seat
    pub apart : HaveOwnTickets s.views
    pub slot : IsHome means entries s.homes ⊎ IsAway entries s.homes s.views
    pub owners : ShareNumbers callers s.views
    -- so no more tickets are out than there are callers
    pub many : sum_by (λ seat. length (numbers seat)) s.views ≡ callers
    pub within : AllByRecursion (λ e. caller_of e < callers) entries

  -- what lies at home once all seats but this one are spent
  pub record IsLeft (caller_of : E → ℕ) (means : T → List E → Type 0) (callers : ℕ)
      (seat : SeatState E) (content : Content T E) : Type 0 where
    pub stands : means content.value content.chain
    pub own : entries_of caller_of seat.caller content.chain ≡ seat.own
    pub joined : All (λ known. entries_of caller_of known.0 content.chain ≡ known.1) seat.joined
    pub spare : All (λ number. entries_of caller_of number content.chain ≡ []) seat.spare
    pub within : All (λ e. caller_of e < callers) content.chain
