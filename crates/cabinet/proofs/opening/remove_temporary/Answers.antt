use Rattle.std.proofs.Common.{sym, ◌∙◌}
use Rattle.std.proofs.lemmas.Result.{on_ok_weaker}
use Rattle.board_model.specs.Disk.{Same, Removed, Maybe}
use Rattle.board_model.proofs.Effects.{leaves_none, leaves_weaker, goes_same, goes_weaker, goes_or_not_weaker}
use Rattle.staged_file.specs.Staged.{Kept}
use Rattle.staged_file.proofs.Staging.{kept_same}
use Rattle.cabinet.proofs.EditLemmas.{kept_refl}
use Rattle.cabinet.proofs.OpeningLemmas.{temporary_removed, maybe_removed, removed_gone, stays_gone}
use Rattle.cabinet.proofs.opening.remove_temporary.Goals as goal

pub returns-then-not-is_temporary-clause-any_moment : goal.returns-then-not-is_temporary-clause-any_moment
returns-then-not-is_temporary-clause-any_moment g c = leaves_none (g.B.Board.disk c.args.board.now) Kept kept_refl (g.met.B.Board.only_now c.args.board.now)

pub returns-then-not-is_temporary-clause-kept : goal.returns-then-not-is_temporary-clause-kept
returns-then-not-is_temporary-clause-kept g c = let a = g.B.Board.disk c.args.board.now in goes_weaker a a Same Kept kept_same (goes_same a)

pub returns-clause-any_moment : goal.returns-clause-any_moment
returns-clause-any_moment g c =
    let name = c.args.file.now in
    leaves_weaker (g.B.Board.disk c.args.board.now) (g.B.Board.disk c.remove.new.self) (Maybe (Removed name)) Kept (maybe_removed name (sym c.is_temporary.ensures ∙ c.if-not-is_temporary.false)) c.remove.ensures.crash

pub returns-clause-kept : goal.returns-clause-kept
returns-clause-kept g c =
    let name = c.args.file.now in
    goes_or_not_weaker (g.B.Board.disk c.args.board.now) (g.B.Board.disk c.remove.new.self) (Removed name) Kept (temporary_removed name (sym c.is_temporary.ensures ∙ c.if-not-is_temporary.false)) kept_same c.remove.ensures.done_or_not

pub returns-clause-gone : goal.returns-clause-gone
returns-clause-gone g c = on_ok_weaker c.remove.result (λ done is. removed_gone c.args.file.now (g.B.Board.disk c.args.board.now) (g.B.Board.disk c.remove.new.self) done) c.remove.ensures.done

pub returns-clause-stays : goal.returns-clause-stays
returns-clause-stays g c = stays_gone c.args.file.now (g.B.Board.disk c.args.board.now) (g.B.Board.disk c.remove.new.self) c.remove.ensures.done_or_not
