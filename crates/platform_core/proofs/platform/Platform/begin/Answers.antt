use Rattle.std.proofs.Common.{◌∙◌, [], ap, sym, subst}
use Rattle.std.specs.Result.{is_ok}
use Rattle.board_model.specs.Disk.{Same, Leaves, Goes}
use Rattle.board_model.proofs.Effects.{leaves_weaker, goes_weaker}
use Rattle.staged_file.specs.Staged.{Kept}
use Rattle.staged_file.proofs.Staging.{kept_same}
use Rattle.cabinet.specs.Named.{HasNames}
use Rattle.cabinet.specs.Held.{board_of, accounts_of, names_of}
use Rattle.cabinet.proofs.OpeningLemmas.{leaves_listed, goes_listed}
use Rattle.platform_core.proofs.OpeningLemmas.{distinct_found, leaves_all, goes_all, opened_right}
use Rattle.platform_core.specs.declared.unsure.Unsure.TheVariants.{Nothing}
use Rattle.platform_core.proofs.ShownLemmas.{settled_shows}
use Rattle.platform_core.proofs.platform.Platform.begin.Goals as goal

pub returns-in-Err-clause-any_moment : goal.returns-in-Err-clause-any_moment
returns-in-Err-clause-any_moment g c = leaves_weaker (g.B.Board.disk c.args.board)
    (g.B.Board.disk c.room_for_names.new.board) Same Kept kept_same c.room_for_names.ensures.unchanged.crash

pub returns-in-Err-clause-kept : goal.returns-in-Err-clause-kept
returns-in-Err-clause-kept g c = goes_weaker (g.B.Board.disk c.args.board)
    (g.B.Board.disk c.room_for_names.new.board) Same Kept kept_same c.room_for_names.ensures.unchanged.goes

-- each account was added once
pub invariant_of-result : goal.invariant_of-result
invariant_of-result g c = record {
  distinct = distinct_found (accounts_of c.settle.new.self) c.args.accounts.items (names_of c.in-Ok-begin.cabinet)
      (c.settle.ensures.accounts ∙ c.in-Ok-begin.ensures.opened.found.accounts_are);
}

pub returns-in-Ok-settle-clause-right : goal.returns-in-Ok-settle-clause-right
returns-in-Ok-settle-clause-right g c = λ told agrees.
    opened_right (g.B.Board.disk c.args.board) (g.B.Board.disk c.room_for_names.new.board)
    (g.B.Board.disk (board_of c.in-Ok-begin.cabinet)) (g.B.Board.disk (board_of c.settle.new.self))
    (names_of c.settle.new.self)
    c.room_for_names.ensures.unchanged c.in-Ok-begin.ensures.kept c.settle.ensures.unchanged
    (c.settle.ensures.settled (ap is_ok c.in-Ok-settle.is))
    (subst (HasNames [] (g.B.Board.disk (board_of c.in-Ok-begin.cabinet)))
    (sym c.settle.ensures.names) c.in-Ok-begin.ensures.named) told agrees

pub returns-in-Ok-settle-clause-any_moment : goal.returns-in-Ok-settle-clause-any_moment
returns-in-Ok-settle-clause-any_moment g c =
    leaves_all (g.B.Board.disk c.args.board) (g.B.Board.disk c.room_for_names.new.board)
    (g.B.Board.disk (board_of c.in-Ok-begin.cabinet)) (g.B.Board.disk (board_of c.settle.new.self))
    c.room_for_names.ensures.unchanged c.settle.ensures.unchanged c.in-Ok-begin.ensures.any_moment

pub returns-in-Ok-settle-clause-kept : goal.returns-in-Ok-settle-clause-kept
returns-in-Ok-settle-clause-kept g c =
    goes_all (g.B.Board.disk c.args.board) (g.B.Board.disk c.room_for_names.new.board)
    (g.B.Board.disk (board_of c.in-Ok-begin.cabinet)) (g.B.Board.disk (board_of c.settle.new.self))
    c.room_for_names.ensures.unchanged c.settle.ensures.unchanged c.in-Ok-begin.ensures.kept

pub returns-in-Err-settle-clause-any_moment : goal.returns-in-Err-settle-clause-any_moment
returns-in-Err-settle-clause-any_moment g c =
    subst (λ (x : g.row.B.Denot). Leaves (g.B.Board.disk c.args.board) (g.B.Board.disk x) Kept)
    (sym c.into_board.ensures.value)
    (leaves_all (g.B.Board.disk c.args.board) (g.B.Board.disk c.room_for_names.new.board)
    (g.B.Board.disk (board_of c.in-Ok-begin.cabinet)) (g.B.Board.disk (board_of c.settle.new.self))
    c.room_for_names.ensures.unchanged c.settle.ensures.unchanged c.in-Ok-begin.ensures.any_moment)

pub returns-in-Err-settle-clause-kept : goal.returns-in-Err-settle-clause-kept
returns-in-Err-settle-clause-kept g c =
    subst (λ (x : g.row.B.Denot). Goes (g.B.Board.disk c.args.board) (g.B.Board.disk x) Kept)
    (sym c.into_board.ensures.value)
    (goes_all (g.B.Board.disk c.args.board) (g.B.Board.disk c.room_for_names.new.board)
    (g.B.Board.disk (board_of c.in-Ok-begin.cabinet)) (g.B.Board.disk (board_of c.settle.new.self))
    c.room_for_names.ensures.unchanged c.settle.ensures.unchanged c.in-Ok-begin.ensures.kept)

pub returns-in-Err-begin-clause-any_moment : goal.returns-in-Err-begin-clause-any_moment
returns-in-Err-begin-clause-any_moment g c =
    leaves_listed (g.B.Board.disk c.args.board) (g.B.Board.disk c.room_for_names.new.board)
    (g.B.Board.disk c.in-Err-begin.board) c.room_for_names.ensures.unchanged.crash c.in-Err-begin.ensures.any_moment

pub returns-in-Err-begin-clause-kept : goal.returns-in-Err-begin-clause-kept
returns-in-Err-begin-clause-kept g c =
    goes_listed (g.B.Board.disk c.args.board) (g.B.Board.disk c.room_for_names.new.board)
    (g.B.Board.disk c.in-Err-begin.board) c.room_for_names.ensures.unchanged.goes c.in-Err-begin.ensures.kept

-- each image is as what is there, which shows the contents under the names
pub returns-in-Ok-settle-clause-shown : goal.returns-in-Ok-settle-clause-shown
returns-in-Ok-settle-clause-shown g c = λ told agrees image left.
    settled_shows (accounts_of c.settle.new.self) (g.B.Board.disk (board_of c.settle.new.self))
    (record { names = names_of c.settle.new.self; unsure = Nothing })
    (returns-in-Ok-settle-clause-right g c told agrees) image left
