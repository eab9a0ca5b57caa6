-- What the fields of a seat mean, at rest and while it has the lock.
use Rattle.std.specs.Prelude.{◌≡◌, ℕ, ◌-◌, true, List, [], ◌∷◌, Option, None}
use Rattle.atomic_table.specs.Seated.{TableId}
use Rattle.atomic_table.specs.declared.shared.Seat.{Seat}
use Rattle.std.specs.List.{range_with_len}
use Rattle.turn_lock.specs.Seats.{SeatView}
use Rattle.turn_lock.specs.declared.table.Content.{Content}
use Rattle.turn_lock.specs.declared.table.SeatState.{SeatState}
use Rattle.turn_lock.specs.declared.table.Stage.TheVariants.{Idle, Serving}

abbrev Place : Type 0 → Type 0 → Type 0
Place T E = Seat (Option (Content T E)) (SeatState E)

-- a seat of this table, of a lock for so many callers, as contracts see it
abbrev pub view_of : {E : Type 0} → TableId → ℕ → SeatState E → SeatView E
view_of table callers seat = record {
  lock = record { table = table; callers = callers };
  caller = seat.caller;
  own = seat.own;
  joined = seat.joined;
  spare = seat.spare;
}

module _ {T E : Type 0} where
  abbrev pub seat_at : Place T E → ℕ → SeatView E
  seat_at place callers = view_of place.table_id callers place.me.0

  -- the numbers that the fields have are those of the place
  pub record HasNumbers (place : Place T E) (caller spare end : ℕ) : Type 0 where
    pub named : place.me.0.caller ≡ caller
    pub spares : place.me.0.spare ≡ range_with_len spare (end - spare)

  -- a seat with no ticket, and no slot
  pub record IsAtRest (place : Place T E) : Type 0 where
    pub live : place.me.0.live ≡ true
    pub idle : place.me.0.stage ≡ Idle
    pub empty : place.me.1 ≡ []

  -- a seat that is served, and has the emptied slot
  pub record HasLock (place : Place T E) (before : List E) : Type 0 where
    pub live : place.me.0.live ≡ true
    pub serving : place.me.0.stage ≡ Serving before
    pub taken : place.me.1 ≡ (0, None) ∷ []
