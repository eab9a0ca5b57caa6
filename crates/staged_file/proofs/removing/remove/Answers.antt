use Rattle.std.proofs.Common.{inr, None}
use Rattle.std.proofs.lemmas.Result.{on_ok_weaker}
use Rattle.staged_file.specs.Staged.{Replaced}
use Rattle.staged_file.proofs.Removals.{after_remove, after_remove_dir, goes_gone, goes_gone_or_not, goes_gone_dir}
use Rattle.staged_file.proofs.Staging.{durable_by}
use Rattle.staged_file.proofs.removing.remove.Goals as goal

-- the removal failed: it is done or not

pub returns-in_err-remove-clause-any_moment : goal.returns-in_err-remove-clause-any_moment
returns-in_err-remove-clause-any_moment g c = after_remove c.args.name.now _ _ c.remove.ensures.crash

pub returns-in_err-remove-clause-done_or_not : goal.returns-in_err-remove-clause-done_or_not
returns-in_err-remove-clause-done_or_not g c =
    goes_gone_or_not c.args.name.now _ _ c.remove.ensures.done_or_not

-- it is done, and lasts if the directory is synced

pub returns-clause-any_moment : goal.returns-clause-any_moment
returns-clause-any_moment g c =
    after_remove_dir c.args.name.now _ _ _ c.remove.ensures.crash c.sync_dir.ensures.unchanged.crash

pub returns-clause-durable : goal.returns-clause-durable
returns-clause-durable g c =
    let n = c.args.name.now in
    let a = g.B.Board.disk c.args.board.now in
    let b = g.B.Board.disk c.remove.new.self in
    let e = g.B.Board.disk c.sync_dir.new.self in
    let law = g.met.B.Board.synced_now c.args.board.now in
    on_ok_weaker c.sync_dir.result
    (durable_by (Replaced n None) a b e law (goes_gone n a b c.in_ok-remove.ensures.done)) c.sync_dir.ensures.stands

pub returns-clause-done : goal.returns-clause-done
returns-clause-done g c =
    on_ok_weaker c.sync_dir.result (λ _. goes_gone_dir c.args.name.now _ _ _ c.in_ok-remove.ensures.done c.sync_dir.ensures.unchanged.goes)
    c.sync_dir.ensures.stands

pub returns-clause-done_or_not : goal.returns-clause-done_or_not
returns-clause-done_or_not g c =
    inr (goes_gone_dir c.args.name.now _ _ _ c.in_ok-remove.ensures.done c.sync_dir.ensures.unchanged.goes)
