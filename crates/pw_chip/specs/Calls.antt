-- The calls that a chip takes, as data.
use Rattle.std.specs.Prelude.{ℕ, List}

pub data CallData : Type 0 where
  ResetTree : CallData
  Insert : (label : ℕ) → (aux : List (List (List ℕ))) → (mac : List ℕ) → (les : List ℕ) → (hes : List ℕ) → (reset : List ℕ) → (schedule : List (ℕ × ℕ)) → (iv : List ℕ) → CallData
  Remove : (label : ℕ) → (aux : List (List (List ℕ))) → (mac : List ℕ) → CallData
  Try : (label : ℕ) → (aux : List (List (List ℕ))) → (leaf : List ℕ) → (les : List ℕ) → CallData
  Reset : (label : ℕ) → (aux : List (List (List ℕ))) → (leaf : List ℕ) → (reset : List ℕ) → CallData
  GetLog : (host : List ℕ) → CallData
  Replay : (label : ℕ) → (aux : List (List (List ℕ))) → (leaf : List ℕ) → CallData
