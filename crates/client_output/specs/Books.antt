-- A caller's own entries in the books.
use Rattle.std.specs.Prelude.{ℕ, List}
use Rattle.account_machine.specs.declared.entry.Entry.{Entry}
use Rattle.account_machine.specs.Legal.{own_entries}
use Rattle.client_output.specs.Output.{Owned}

-- a book as it is left: its account, and its entries
pub record BookSeen : Type 0 where
  pub account : List ℕ
  pub entries : List Entry

-- a caller's own entries in a book
abbrev pub own_in : ℕ → BookSeen → Owned
own_in caller book = record { account = book.account; entries = own_entries caller book.entries }
