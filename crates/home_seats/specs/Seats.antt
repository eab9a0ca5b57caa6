-- A client's seat of an account's lock, and what it knows.
use Rattle.std.specs.Prelude.{◌≡◌, ℕ, List, [], ◌∷◌, ◌++◌, map, Option, None, Some}
use Rattle.account_machine.specs.declared.entry.Entry.{Entry as MachineEntry}
use Rattle.pw_types.specs.declared.era.Era.{Era}
use Rattle.turn_lock.specs.Seats.{LockId, SeatView}
use Rattle.platform_lock.specs.Devices.{DeviceSeen}
use Rattle.platform_lock.specs.Seats.{AccountView}
use Rattle.client_output.specs.Seats.{BareSeat}
use Rattle.home_locks.specs.Accounts.{IsPlaced}
use Rattle.home_locks.specs.declared.account.Entry.{Entry}
use Rattle.turn_meaning.specs.declared.taken.TurnTaken.{TurnTaken}
use Rattle.user_state.specs.declared.state.UserState.{UserState}
use Rattle.user_accounts.specs.Ready.{IsReadyFor}

-- the machine's entry of a client's turn in a book
abbrev pub entry_at : Entry TurnTaken → MachineEntry
entry_at entry = record {
  caller = entry.client;
  given = entry.turn.given;
  moment = entry.turn.moment;
  told = entry.turn.told;
  turn = entry.turn.turn;
  answer = entry.turn.answer;
  place = entry.place;
}

-- the lock of a seat
abbrev pub lock_at : Option (SeatView (Entry TurnTaken)) → Option LockId
lock_at None = None
lock_at (Some seat) = Some seat.lock

-- a seat of a lock without what it knows
abbrev pub bare_at : LockId → Option (SeatView (Entry TurnTaken)) → BareSeat
bare_at lock None = record { lock = lock; caller = 0; others = [] }
bare_at lock (Some seat) =
    record { lock = seat.lock; caller = seat.caller; others = map (λ known. known.0) seat.joined ++ seat.spare }

-- the entries that a seat knows
abbrev pub own_at : Option (SeatView (Entry TurnTaken)) → List MachineEntry
own_at None = []
own_at (Some seat) = map (λ known. entry_at known.1) seat.own

-- a client's seat at an account's lock: the lock, and the seat, which is away only during a turn
pub record AtLock : Type 0 where
  pub lock : LockId
  pub seat : Option (SeatView (Entry TurnTaken))

-- The lock was made with an account of this device and in its era, and with a state that a turn can begin with.
pub record IsOpenLock (device : DeviceSeen) (shared : LockId) (era : Era) (first : Option AccountView)
    (state : UserState) : Type 0 where
  pub placed : IsPlaced IsReadyFor device shared first state
  pub era_is : era ≡ device.era

-- an account's lock, with the seat, the state and the era that it was made with
pub record LockSeen : Type 0 where
  pub lock : LockId
  pub seat : Option AccountView
  pub state : UserState
  pub era : Era

abbrev pub lock_seen : LockId → Option AccountView → UserState → Era → LockSeen
lock_seen lock seat state era = record { lock = lock; seat = seat; state = state; era = era }
