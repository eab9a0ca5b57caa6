-- What a board over a real directory shows of itself.
use Rattle.std.specs.Prelude.{◌≡◌, ◌↔◌, ℕ, Bool, IsTrue}
use Rattle.board_model.specs.declared.file_board.FileBoard.{FileBoard}

module _ {R F : Type 0} where
  -- how often a call of it has failed
  abbrev pub faults_of : FileBoard R F → ℕ
  faults_of board = board.faults

  -- a sync has failed, so that what was to be synced may be lost
  abbrev pub is_lost : FileBoard R F → Bool
  is_lost board = board.lost

  -- a call that syncs nothing: it fails where the board is lost, and the board stays as it is
  pub record Fails (old new : FileBoard R F) (Failing : Type 0) : Type 0 where
    pub lost : IsTrue (is_lost old) → Failing
    pub stays : is_lost new ≡ is_lost old

  -- a call that syncs: it fails where the board is lost, and the board is lost where it fails
  pub record Syncs (old new : FileBoard R F) (Failing : Type 0) : Type 0 where
    pub lost : IsTrue (is_lost old) → Failing
    pub loses : IsTrue (is_lost new) ↔ Failing
