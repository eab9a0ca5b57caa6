use Rattle.std.proofs.Common.{List, ℕ, sym, subst, ◌∙◌}
use Rattle.std.specs.Prelude.{Contains}
use Rattle.board_model.specs.Disk.{Same}
use Rattle.board_model.proofs.Effects.{leaves_weaker, goes_weaker}
use Rattle.staged_file.specs.Staged.{Kept}
use Rattle.staged_file.proofs.Staging.{kept_same}
use Rattle.cabinet.specs.Opening.{AreFound, AreRead}
use Rattle.cabinet.proofs.OpeningLemmas.{leaves_listed, goes_listed, on_not_err, if_ok}
use Rattle.cabinet.proofs.NamedCalls.{opened_names}
use Rattle.cabinet.proofs.begin.open.Goals as goal

pub returns-in-Err-clause-any_moment : goal.returns-in-Err-clause-any_moment
returns-in-Err-clause-any_moment g c = leaves_weaker (g.B.Board.disk c.args.board.now) (g.B.Board.disk c.list.new.self) Same Kept kept_same c.list.ensures.unchanged.crash

pub returns-in-Err-clause-kept : goal.returns-in-Err-clause-kept
returns-in-Err-clause-kept g c = goes_weaker (g.B.Board.disk c.args.board.now) (g.B.Board.disk c.list.new.self) Same Kept kept_same c.list.ensures.unchanged.goes

pub returns-then-is_err-clause-any_moment : goal.returns-then-is_err-clause-any_moment
returns-then-is_err-clause-any_moment g c =
    leaves_listed (g.B.Board.disk c.args.board.now) (g.B.Board.disk c.list.new.self) (g.B.Board.disk c.clear.new.board) c.list.ensures.unchanged.crash c.clear.ensures.any_moment

pub returns-then-is_err-clause-kept : goal.returns-then-is_err-clause-kept
returns-then-is_err-clause-kept g c =
    goes_listed (g.B.Board.disk c.args.board.now) (g.B.Board.disk c.list.new.self) (g.B.Board.disk c.clear.new.board) c.list.ensures.unchanged.goes c.clear.ensures.kept

pub returns-clause-any_moment : goal.returns-clause-any_moment
returns-clause-any_moment g c =
    leaves_listed (g.B.Board.disk c.args.board.now) (g.B.Board.disk c.list.new.self) (g.B.Board.disk c.clear.new.board) c.list.ensures.unchanged.crash c.clear.ensures.any_moment

pub returns-clause-kept : goal.returns-clause-kept
returns-clause-kept g c =
    goes_listed (g.B.Board.disk c.args.board.now) (g.B.Board.disk c.list.new.self) (g.B.Board.disk c.clear.new.board) c.list.ensures.unchanged.goes c.clear.ensures.kept

-- the names are those of the files that were listed, and the temporary ones among these are gone
pub returns-clause-opened : goal.returns-clause-opened
returns-clause-opened g c =
    let files = c.in-Ok.files.items in
    let new = g.B.Board.disk c.clear.new.board in
    let gone = on_not_err c.clear.result c.clear.ensures.gone (sym c.is_err.ensures.value ∙ c.if-is_err.false) in
    if_ok c.found.result _ _ (λ both h. record {
      files = files;
      listed = c.in-Ok.ensures.content;
      found = subst (λ (xs : List (List ℕ)). AreFound xs c.args.named.now c.args.most both.0.items both.1.items) c.deref-2.ensures.value h;
      gone = λ q there temporary. gone q (subst (λ (xs : List (List ℕ)). Contains xs q) (sym c.deref.ensures.value) there) temporary;
    }) c.found.ensures.found

pub returns-clause-named : goal.returns-clause-named
returns-clause-named g c =
    let a = g.B.Board.disk c.args.board.now in
    let b = g.B.Board.disk c.list.new.self in
    let n = g.B.Board.disk c.clear.new.board in
    if_ok c.found.result _ _ (λ both h.
    opened_names a n c.in-Ok.files.items both.0.items c.in-Ok.ensures.content (subst (λ (xs : List (List ℕ)). AreRead xs both.0.items) c.deref-2.ensures.value h.read)
    (goes_listed a b n c.list.ensures.unchanged.goes c.clear.ensures.kept)) c.found.ensures.found
