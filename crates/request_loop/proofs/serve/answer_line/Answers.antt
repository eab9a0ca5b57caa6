use Rattle.std.proofs.Common.{refl, ◌++◌, [], ◌∷◌}
use Rattle.fault_count.proofs.ToldLemmas.{becomes_weaker}
use Rattle.request_loop.specs.Lines.{line_seen}
use Rattle.request_loop.specs.Exchange.{Exchange}
use Rattle.request_loop.specs.Cut.{QueuesFor, WritesFor}
use Rattle.request_loop.proofs.Serving.{writes-one}
use Rattle.request_loop.proofs.serve.answer_line.Goals as goal

-- the reply was put behind those that wait
pub returns-clause-served : goal.returns-clause-served
returns-clause-served g c =
    let x : Exchange = record { line = line_seen c.args.line; moment = c.now-moment.result; reply = c.answer.new.reply.items } in
    let before = c.args.replies.now.bytes.items in
    let after = c.put.new.self.bytes.items in (
      x,
      refl,
      record {
        answered = c.answer.ensures.answered;
        moments = c.now-moment.ensures;
        written = becomes_weaker (QueuesFor c.put.result before after (x.reply ++ 10 ∷ [])) (WritesFor c.put.result before after (x ∷ [])) _ _
            (writes-one c.put.result before after x) c.put.ensures.written;
      },
    )
