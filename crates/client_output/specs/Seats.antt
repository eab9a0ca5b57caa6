-- A client's seat of an account's lock.
use Rattle.std.specs.Prelude.{ℕ, List}
use Rattle.turn_lock.specs.Seats.{LockId}

-- A seat without what it knows: its lock, its number, and the numbers that it has besides.
pub record BareSeat : Type 0 where
  pub lock : LockId
  pub caller : ℕ
  pub others : List ℕ
