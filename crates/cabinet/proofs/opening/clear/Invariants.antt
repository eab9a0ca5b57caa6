use Rattle.std.proofs.Common.{◌≡◌, ℕ, List, take}
use Rattle.std.specs.Prelude.{Contains}
use Rattle.board_model.specs.Files.{IsTemporary}
use Rattle.board_model.specs.Disk.{Leaves, Goes}
use Rattle.staged_file.specs.Staged.{Kept}
use Rattle.cabinet.specs.Opening.{LacksOnceSynced}
use Rattle.cabinet.proofs.opening.clear.Given as goal

-- the temporary files so far are gone, and no call failed
abbrev pub invariant-loop-file : goal.invariant-loop-file
invariant-loop-file g l = record {
  any_moment : Leaves (g.B.Board.disk l.fn.board) (g.B.Board.disk l.board) Kept;
  kept : Goes (g.B.Board.disk l.fn.board) (g.B.Board.disk l.board) Kept;
  gone : (q : List ℕ) → Contains (take l.file-index l.files) q → IsTemporary q → LacksOnceSynced (g.B.Board.disk l.board) q;
  faults : g.B.Board.faults l.board ≡ g.B.Board.faults l.fn.board;
}
