-- A home as its clients' requests find it.
use Rattle.std.specs.Prelude.{◌≡◌, true, List, ◌++◌, map, length, Option, None, Some}
use Rattle.std.specs.List.{AllByRecursion}
use Rattle.client_output.specs.Seats.{BareSeat}
use Rattle.request_turns.specs.Named.{are_apart}
use Rattle.share_api.specs.Contents.{Bytes}
use Rattle.turn_lock.specs.Seats.{LockId, SeatView}
use Rattle.platform_lock.specs.Devices.{DeviceSeen}
use Rattle.home_locks.specs.declared.account.Entry.{Entry}
use Rattle.turn_meaning.specs.declared.taken.TurnTaken.{TurnTaken}
use Rattle.home_seats.specs.Seats.{IsOpenLock, LockSeen}

-- the accounts' names, and their locks in the same order
pub record HomeView : Type 0 where
  pub names : List Bytes
  pub locks : List LockId

-- No name comes twice, there is a lock for each, and each was made with an account of the device that can take turns.
pub record IsServable (device : DeviceSeen) (shared : LockId) (names : List Bytes) (locks : List LockSeen) : Type 0 where
  pub apart : are_apart names ≡ true
  pub many : length locks ≡ length names
  pub each : AllByRecursion (λ at. IsOpenLock device shared at.era at.seat at.state) locks

-- a client's slot without what the seat in it knows
abbrev pub bare_slot : Option (SeatView (Entry TurnTaken)) → Option BareSeat
bare_slot None = None
bare_slot (Some seat) = Some (record {
  lock = seat.lock;
  caller = seat.caller;
  others = map (λ known. known.0) seat.joined ++ seat.spare;
})
