-- The device steps of one account, each with its place in the chain of all accounts' steps.
use Rattle.std.specs.Prelude.{ℕ, List}
pub use Rattle.share_api.specs.Places.{steps_of, place_from}

module _ {S : Type 0} where
  -- the number of steps of all accounts up to and with the last of these, 0 where there are none
  abbrev pub place_of : List (ℕ × S) → ℕ
  place_of owned = place_from 0 owned
