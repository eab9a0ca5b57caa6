use Rattle.std.proofs.Common.{◌∙◌, [], ◌∷◌}
use Rattle.std.proofs.lemmas.Result.{err_from_is_err_and}
use Rattle.request_loop.specs.Exchange.{Exchange, written_for}
use Rattle.request_loop.specs.Cut.{Queues}
use Rattle.request_loop.proofs.Cutting.{holds-byte, holds-feed, ended_seen-byte, ended_seen-feed}
use Rattle.request_loop.proofs.Serving.{queues-none, serves-none}
use Rattle.request_loop.proofs.serve.take_byte.Goals as goal

-- the line that the line feed ends is the one that was answered, though its reply couldn't be written
pub returns-in_err-answer_line-clause-served : goal.returns-in_err-answer_line-clause-served
returns-in_err-answer_line-clause-served g c =
    let p = err_from_is_err_and c.from_residual.result c.from_residual.ensures.1 in
    let made = c.in_err-answer_line.ensures.served in
    let x : Exchange = made.0 in
    rw p.1 (
      x ∷ [],
      made.2,
      λ taken h. ended_seen-feed _ _ taken c.args.byte x.line c.if-byte-eq10.true
          (λ line kept. made.1 ∙ c.line.ensures line kept) h,
    )

pub returns-in_ok-answer_line-clause-served : goal.returns-in_ok-answer_line-clause-served
returns-in_ok-answer_line-clause-served g c =
    let made = c.in_ok-answer_line.ensures.served in
    let x : Exchange = made.0 in (
      x ∷ [],
      made.2,
      λ taken h. ended_seen-feed _ _ taken c.args.byte x.line c.if-byte-eq10.true
          (λ line kept. made.1 ∙ c.line.ensures line kept) h,
    )

pub returns-in_ok-answer_line-clause-part : goal.returns-in_ok-answer_line-clause-part
returns-in_ok-answer_line-clause-part g c = λ taken h. holds-feed _ _ _ _ taken c.args.byte c.if-byte-eq10.true c.clear.ensures h

-- another byte ends no line
pub returns-else-byte-eq10-clause-served : goal.returns-else-byte-eq10-clause-served
returns-else-byte-eq10-clause-served g c = ([], serves-none _ _ _ (λ exchanges. Queues c.args.replies.now.bytes.items c.args.replies.now.bytes.items (written_for exchanges)) (queues-none c.args.replies.now.bytes.items), λ taken h. ended_seen-byte _ _ taken c.args.byte c.if-byte-eq10.false h)

pub returns-else-byte-eq10-clause-part : goal.returns-else-byte-eq10-clause-part
returns-else-byte-eq10-clause-part g c = λ taken h. holds-byte _ _ _ _ taken c.args.byte c.if-byte-eq10.false c.add.ensures h
