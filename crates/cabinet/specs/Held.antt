-- What a cabinet keeps beside its board.
use Rattle.std.specs.Prelude.{ℕ, List}
use Rattle.cabinet.specs.declared.cabinet.Cabinet.{Cabinet}

module _ {B : Type 0} where
  abbrev pub board_of : Cabinet B → B
  board_of cabinet = cabinet.board

  -- the names that it holds
  abbrev pub names_of : Cabinet B → List (List ℕ)
  names_of cabinet = cabinet.names.items

  abbrev pub accounts_of : Cabinet B → List (List ℕ)
  accounts_of cabinet = cabinet.accounts.items

  -- for how many names it has room
  abbrev pub most_of : Cabinet B → ℕ
  most_of cabinet = cabinet.most
