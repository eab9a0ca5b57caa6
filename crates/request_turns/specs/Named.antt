-- Accounts by their names, each with a client's own entries.
use Rattle.std.specs.Prelude.{ℕ, Bool, true, List, [], ◌∷◌, ◌&&◌, not}
use Rattle.account_machine.specs.declared.entry.Entry.{Entry}
use Rattle.client_output.specs.Grown.{SeatSeen}
use Rattle.client_output.specs.Output.{Owned, is_among}

-- no name comes twice
abbrev pub are_apart : List (List ℕ) → Bool
are_apart [] = true
are_apart (name ∷ names) = not (is_among name names) && are_apart names

-- the accounts of these names, each with the entries that stand at its place
abbrev pub named : List (List ℕ) → List (List Entry) → List Owned
named [] entries = []
named (name ∷ names) [] = []
named (name ∷ names) (own ∷ entries) = record { account = name; entries = own } ∷ named names entries

-- what a client's seats of these accounts know
abbrev pub seats_seen : ℕ → List (List ℕ) → List (List Entry) → SeatSeen
seats_seen caller names entries = record { caller = caller; owned = named names entries }
