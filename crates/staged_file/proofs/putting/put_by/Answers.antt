use Rattle.std.proofs.Common.{inl, inr, Some, refl}
use Rattle.std.proofs.lemmas.Result.{on_ok_weaker}
use Rattle.staged_file.specs.Staged.{Replaced, KeptOr}
use Rattle.staged_file.proofs.Staging.{leaves_same, goes_on, durable_by}
use Rattle.staged_file.proofs.Puts.{is_there, after_write, after_sync, or_not, after_rename}
use Rattle.staged_file.proofs.Puts.{goes_write, goes_sync, goes_staged, goes_rename, goes_or_not}
use Rattle.staged_file.proofs.putting.put_by.Goals as goal

-- the write failed: only the temporary file may have changed

pub returns-in_err-write_temp-clause-any_moment : goal.returns-in_err-write_temp-clause-any_moment
returns-in_err-write_temp-clause-any_moment g c =
    let t = c.args.temporary.now in
    let n = c.args.name.now in
    let bs = c.args.bytes.now in
    let is = c.requires.temporary in
    let pl = c.requires.plain in
    or_not t n bs is pl _ _ (after_write t n bs is pl _ _ c.write_temp.ensures.crash)

pub returns-in_err-write_temp-clause-done_or_not : goal.returns-in_err-write_temp-clause-done_or_not
returns-in_err-write_temp-clause-done_or_not g c =
    let t = c.args.temporary.now in
    let n = c.args.name.now in
    let bs = c.args.bytes.now in
    let is = c.requires.temporary in
    let pl = c.requires.plain in
    inl (goes_write t n bs is pl _ _ c.write_temp.ensures.goes)

-- its sync failed: the same

pub returns-in_err-sync_temp-clause-any_moment : goal.returns-in_err-sync_temp-clause-any_moment
returns-in_err-sync_temp-clause-any_moment g c =
    let t = c.args.temporary.now in
    let n = c.args.name.now in
    let bs = c.args.bytes.now in
    let is = c.requires.temporary in
    let pl = c.requires.plain in
    or_not t n bs is pl _ _ (after_sync t n bs is pl _ _ _ c.write_temp.ensures.crash c.sync_temp.ensures.crash)

pub returns-in_err-sync_temp-clause-done_or_not : goal.returns-in_err-sync_temp-clause-done_or_not
returns-in_err-sync_temp-clause-done_or_not g c =
    let t = c.args.temporary.now in
    let n = c.args.name.now in
    let bs = c.args.bytes.now in
    let is = c.requires.temporary in
    let pl = c.requires.plain in
    inl (goes_sync t n bs is pl _ _ _ c.write_temp.ensures.goes c.sync_temp.ensures.goes)

-- the temporary file was written, so it is there

pub sync_temp-requires : goal.sync_temp-requires
sync_temp-requires g c =
    is_there _ _ _ _ c.args.bytes.now c.in_ok-write_temp.ensures.written refl

pub rename-requires : goal.rename-requires
rename-requires g c =
    is_there _ _ _ _ c.args.bytes.now c.in_ok-write_temp.ensures.written c.sync_temp.ensures.same

-- the rename failed: it is done or not

pub returns-in_err-rename-clause-any_moment : goal.returns-in_err-rename-clause-any_moment
returns-in_err-rename-clause-any_moment g c =
    let t = c.args.temporary.now in
    let n = c.args.name.now in
    let bs = c.args.bytes.now in
    let is = c.requires.temporary in
    let pl = c.requires.plain in
    let a = g.B.Board.disk c.args.board.now in
    let b = g.B.Board.disk c.write_temp.new.self in
    let s = g.B.Board.disk c.sync_temp.new.self in
    let r = g.B.Board.disk c.rename.new.self in
    let synced = after_sync t n bs is pl a b s c.write_temp.ensures.crash c.sync_temp.ensures.crash in
    let renamed = after_rename t n bs is pl a b s r synced c.in_ok-write_temp.ensures.written c.sync_temp.ensures.same c.in_ok-sync_temp.ensures.whole c.rename.ensures.crash in
    renamed

pub returns-in_err-rename-clause-done_or_not : goal.returns-in_err-rename-clause-done_or_not
returns-in_err-rename-clause-done_or_not g c =
    let t = c.args.temporary.now in
    let n = c.args.name.now in
    let bs = c.args.bytes.now in
    let is = c.requires.temporary in
    let pl = c.requires.plain in
    let a = g.B.Board.disk c.args.board.now in
    let b = g.B.Board.disk c.write_temp.new.self in
    let s = g.B.Board.disk c.sync_temp.new.self in
    let r = g.B.Board.disk c.rename.new.self in
    let staged = goes_staged t n bs is pl a b s c.in_ok-write_temp.ensures.written c.write_temp.ensures.goes c.sync_temp.ensures.same c.sync_temp.ensures.goes c.in_ok-sync_temp.ensures.synced in
    goes_or_not t n bs is pl a s r staged c.rename.ensures.done_or_not

-- it is done, and lasts if the directory is synced

pub returns-clause-any_moment : goal.returns-clause-any_moment
returns-clause-any_moment g c =
    let t = c.args.temporary.now in
    let n = c.args.name.now in
    let bs = c.args.bytes.now in
    let is = c.requires.temporary in
    let pl = c.requires.plain in
    let a = g.B.Board.disk c.args.board.now in
    let b = g.B.Board.disk c.write_temp.new.self in
    let s = g.B.Board.disk c.sync_temp.new.self in
    let r = g.B.Board.disk c.rename.new.self in
    let e = g.B.Board.disk c.sync_dir.new.self in
    let synced = after_sync t n bs is pl a b s c.write_temp.ensures.crash c.sync_temp.ensures.crash in
    let renamed = after_rename t n bs is pl a b s r synced c.in_ok-write_temp.ensures.written c.sync_temp.ensures.same c.in_ok-sync_temp.ensures.whole c.rename.ensures.crash in
    leaves_same (KeptOr (Replaced n (Some bs))) a r e renamed c.sync_dir.ensures.unchanged.crash

pub returns-clause-durable : goal.returns-clause-durable
returns-clause-durable g c =
    let t = c.args.temporary.now in
    let n = c.args.name.now in
    let bs = c.args.bytes.now in
    let is = c.requires.temporary in
    let pl = c.requires.plain in
    let a = g.B.Board.disk c.args.board.now in
    let b = g.B.Board.disk c.write_temp.new.self in
    let s = g.B.Board.disk c.sync_temp.new.self in
    let r = g.B.Board.disk c.rename.new.self in
    let e = g.B.Board.disk c.sync_dir.new.self in
    let staged = goes_staged t n bs is pl a b s c.in_ok-write_temp.ensures.written c.write_temp.ensures.goes c.sync_temp.ensures.same c.sync_temp.ensures.goes c.in_ok-sync_temp.ensures.synced in
    let done = goes_rename t n bs is pl a s r staged c.in_ok-rename.ensures.done in
    let law = g.met.B.Board.synced_now c.args.board.now in
    on_ok_weaker c.sync_dir.result (durable_by (Replaced n (Some bs)) a r e law done) c.sync_dir.ensures.stands

pub returns-clause-done : goal.returns-clause-done
returns-clause-done g c =
    let t = c.args.temporary.now in
    let n = c.args.name.now in
    let bs = c.args.bytes.now in
    let is = c.requires.temporary in
    let pl = c.requires.plain in
    let a = g.B.Board.disk c.args.board.now in
    let b = g.B.Board.disk c.write_temp.new.self in
    let s = g.B.Board.disk c.sync_temp.new.self in
    let r = g.B.Board.disk c.rename.new.self in
    let e = g.B.Board.disk c.sync_dir.new.self in
    let staged = goes_staged t n bs is pl a b s c.in_ok-write_temp.ensures.written c.write_temp.ensures.goes c.sync_temp.ensures.same c.sync_temp.ensures.goes c.in_ok-sync_temp.ensures.synced in
    let done = goes_rename t n bs is pl a s r staged c.in_ok-rename.ensures.done in
    let lasts = goes_on (Replaced n (Some bs)) a r e done c.sync_dir.ensures.unchanged.goes in
    on_ok_weaker c.sync_dir.result (λ _. lasts) c.sync_dir.ensures.stands

pub returns-clause-done_or_not : goal.returns-clause-done_or_not
returns-clause-done_or_not g c =
    let t = c.args.temporary.now in
    let n = c.args.name.now in
    let bs = c.args.bytes.now in
    let is = c.requires.temporary in
    let pl = c.requires.plain in
    let a = g.B.Board.disk c.args.board.now in
    let b = g.B.Board.disk c.write_temp.new.self in
    let s = g.B.Board.disk c.sync_temp.new.self in
    let r = g.B.Board.disk c.rename.new.self in
    let e = g.B.Board.disk c.sync_dir.new.self in
    let staged = goes_staged t n bs is pl a b s c.in_ok-write_temp.ensures.written c.write_temp.ensures.goes c.sync_temp.ensures.same c.sync_temp.ensures.goes c.in_ok-sync_temp.ensures.synced in
    let done = goes_rename t n bs is pl a s r staged c.in_ok-rename.ensures.done in
    let lasts = goes_on (Replaced n (Some bs)) a r e done c.sync_dir.ensures.unchanged.goes in
    inr lasts
