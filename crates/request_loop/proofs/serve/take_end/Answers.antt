use Rattle.std.proofs.Common.{◌∙◌, [], ◌∷◌}
use Rattle.request_loop.specs.Exchange.{Exchange, written_for}
use Rattle.request_loop.specs.Cut.{Queues}
use Rattle.request_loop.proofs.Cutting.{lines_seen-none, lines_seen-last}
use Rattle.request_loop.proofs.Serving.{queues-none, serves-none}
use Rattle.request_loop.proofs.serve.take_end.Goals as goal

-- the last line is the one that was answered
pub returns-in-Some-clause-served : goal.returns-in-Some-clause-served
returns-in-Some-clause-served g c =
    let made = c.answer_line.ensures.served in
    let x : Exchange = made.0 in (
      x ∷ [],
      made.2,
      λ taken h. lines_seen-last _ _ taken x.line
          (λ line kept. let last = c.in-Some.ensures line kept in (last.0, made.1 ∙ last.1)) h,
    )

-- no line has begun
pub returns-in-None-clause-served : goal.returns-in-None-clause-served
returns-in-None-clause-served g c = ([], serves-none _ _ _ (λ exchanges. Queues c.args.replies.now.bytes.items c.args.replies.now.bytes.items (written_for exchanges)) (queues-none c.args.replies.now.bytes.items), λ taken h. lines_seen-none _ _ taken c.in-None.ensures h)
