-- Room for bytes that is zero behind those that are used.
use Rattle.std.specs.Prelude.{◌≡◌, ℕ, ◌-◌, ◌≤◌, List, ◌++◌, length, take, drop, replicate}
use Rattle.std.proofs.Common.{arith}
use Rattle.std.proofs.lemmas.List.{length-take-le, take-append-drop}

pub record IsZeroBehind (room : List ℕ) (used : ℕ) : Type 0 where
  pub size : length room ≡ 166
  pub inside : used ≤ 166
  pub behind : drop used room ≡ replicate (166 - used) 0

-- the bytes that are used give back their number, and with zeros behind them the room
pub used_again : (room : List ℕ) (used : ℕ) → IsZeroBehind room used → length (take used room) ≡ used
used_again room used kept = length-take-le used room (omega (arith, kept.size, kept.inside))

pub room_again : (room : List ℕ) (used : ℕ) → IsZeroBehind room used
    → take used room ++ replicate (166 - length (take used room)) 0 ≡ room
room_again room used kept =
    rw (used_again room used kept) (rw (← kept.behind) (take-append-drop used room))
