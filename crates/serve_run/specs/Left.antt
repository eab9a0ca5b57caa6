-- What is left of a run.
use Rattle.std.specs.Prelude.{List, Option}
use Rattle.run_desk.specs.declared.desk.Client.{Client}
use Rattle.share_api.specs.Contents.{Bytes}
use Rattle.home_locks.specs.declared.account.Entry.{Entry}
use Rattle.turn_meaning.specs.declared.taken.TurnTaken.{TurnTaken}
use Rattle.serve_run.specs.declared.left.Left.{Left}

-- the board where it was opened, the clients that were opened, and the accounts with their books in one order
pub record LeftOver (B S K C : Type 0) : Type 0 where
  pub board : Option B
  pub clients : List (Client S K C)
  pub names : List Bytes
  pub books : List (List (Entry TurnTaken))

abbrev pub left_over : {B S K C : Type 0} → Left B S K C → LeftOver B S K C
left_over left = record {
  board = left.board;
  clients = left.clients.items;
  names = left.names.items;
  books = left.books.items;
}
