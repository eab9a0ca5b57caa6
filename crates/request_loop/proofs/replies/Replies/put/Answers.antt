use Rattle.std.proofs.Common.{◌∙◌, ◌++◌, [], ◌∷◌}
use Rattle.std.proofs.lemmas.Result.{err_from_is_err_and}
use Rattle.request_loop.proofs.Queueing.{waiting_cut, written_alone}
use Rattle.request_loop.proofs.replies.Replies.put.Goals as goal

-- what waited couldn't be written
pub returns-in_err-write-clause-written : goal.returns-in_err-write-clause-written
returns-in_err-write-clause-written g c =
    let p = err_from_is_err_and c.from_residual.result c.from_residual.ensures.1 in
    rw p.1 (waiting_cut _ _ c.keep.new.self.bytes.items c.args.self.now.bytes.items (c.args.reply.now.items ++ 10 ∷ [])
    c.if-keep.ensures.kept c.in_err-write.ensures.err)

-- the reply has no room even where nothing waits
pub returns-clause-written : goal.returns-clause-written
returns-clause-written g c =
    written_alone c.write_long.result _ _ _ c.keep.new.self.bytes.items c.args.self.now.bytes.items c.keep-2.new.self.bytes.items (c.args.reply.now.items ++ 10 ∷ [])
    c.if-keep.ensures.kept (c.if-keep-2.ensures.kept ∙ c.in_ok-write.ensures.none)
    c.in_ok-write.ensures.ok c.write_long.ensures.ok c.write_long.ensures.err
