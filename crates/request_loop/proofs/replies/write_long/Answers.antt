use Rattle.std.proofs.Common.{◌≡◌, rules}
use Rattle.request_loop.proofs.Queueing.{feed_cut}
use Rattle.request_loop.proofs.replies.write_long.Goals as goal

-- the reply was written, and its line feed wasn't
pub returns-clause-err : goal.returns-clause-err
returns-clause-err g c =
    let same : c.deref-2.result.now ≡ c.args.reply.now.items = search rules in
    feed_cut c.write-3.result _ _ _ c.deref-2.result.now c.args.reply.now.items same c.in_ok-write.ensures.ok c.write-3.ensures.err
