use Rattle.std.proofs.Common.{◌≡◌, ℕ, ◌≤◌, ◌<◌, List, length, take, Some}
use Rattle.std.specs.Prelude.{Contains, bytes_eq}
use Rattle.std.specs.List.{IsDistinct}
use Rattle.board_model.specs.Disk.{Image}
use Rattle.cabinet.specs.Named.{IsThere}
use Rattle.platform_core.specs.Records.{account_at}
use Rattle.platform_core.specs.Picks.{Picked}
use Rattle.platform_core.specs.Standing.{Looked}
use Rattle.platform_core.specs.Unsure.{NamesKnown}
use Rattle.platform_core.specs.Kept.{board_of, names_of, accounts_of, most_of, memory_of}
use Rattle.platform_core.proofs.records.Records.those_there.Given as goal

-- those among the names so far, and that the names that are left stay held
abbrev pub invariant-loop-name : goal.invariant-loop-name
invariant-loop-name g l = record {
  looked : Looked (g.B.Board.disk (board_of l.fn.self)) (g.B.Board.disk (board_of l.self)) (memory_of l.fn.self)
      (memory_of l.self);
  picked : (now : Image) → (g.B.Board.disk (board_of l.fn.self)).now ≡ Some now → NamesKnown now (memory_of l.fn.self)
      → IsDistinct bytes_eq l.own
      → ((q : List ℕ) → Contains l.own q → Contains (names_of l.fn.self) q)
      → Picked (IsThere now) (take l.name-index l.own) l.there.items
      × ((j : ℕ) → l.name-index ≤ j → j < length l.own → Contains (names_of l.self) (account_at l.own j));
  faults : g.B.Board.faults (board_of l.self) ≡ g.B.Board.faults (board_of l.fn.self);
  accounts : accounts_of l.self ≡ accounts_of l.fn.self;
  most : most_of l.self ≡ most_of l.fn.self;
}
