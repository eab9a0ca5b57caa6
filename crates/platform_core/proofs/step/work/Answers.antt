use Rattle.std.proofs.Common.{◌≢◌, List, refl, subst}
use Rattle.share_api.specs.Contents.{Bytes}
use Rattle.platform_core.specs.Kept.{board_of, memory_of, accounts_of}
use Rattle.platform_core.specs.Records.{account_at}
use Rattle.platform_core.specs.Standing.{Answers}
use Rattle.share_api.specs.declared.step.Reply.TheVariants.{Failed}
use Rattle.platform_core.specs.Asked.{edits_of}
use Rattle.platform_core.proofs.BoardLemmas.{edits_after, edits_none}
use Rattle.platform_core.proofs.StepLemmas.{goes_after, goes_failed, answers_go, answers_right, unsettled_right}
use Rattle.platform_core.proofs.step.work.Goals as goal

pub returns-in-Ok-clause-edits : goal.returns-in-Ok-clause-edits
returns-in-Ok-clause-edits g c =
    edits_after (g.B.Board.disk (board_of c.args.records.now)) (g.B.Board.disk (board_of c.settle.new.records))
    (g.B.Board.disk (board_of c.answer.new.records)) (edits_of c.args.op.now) (c.answer.result ≢ Failed)
    c.settle.ensures.quiet c.settle.ensures.goes c.answer.ensures.answers.edits

pub returns-in-Ok-clause-right : goal.returns-in-Ok-clause-right
returns-in-Ok-clause-right g c = λ right.
    answers_right (account_at (accounts_of c.settle.new.records) c.args.account)
    (g.B.Board.disk (board_of c.settle.new.records)) (g.B.Board.disk (board_of c.answer.new.records))
    (memory_of c.settle.new.records) (memory_of c.answer.new.records) c.args.unsettled c.args.op.now c.answer.result
    (c.settle.ensures.right right) (c.in-Ok.ensures.settled right) c.answer.ensures.answers

-- the own work is done over a settled board
pub returns-in-Ok-clause-goes : goal.returns-in-Ok-clause-goes
returns-in-Ok-clause-goes g c = λ era moment distinct right.
    let accounts = accounts_of c.args.records.now in
    let a = g.B.Board.disk (board_of c.args.records.now) in
    let m = g.B.Board.disk (board_of c.settle.new.records) in
    let b = g.B.Board.disk (board_of c.answer.new.records) in
    let before = memory_of c.settle.new.records in
    let after = memory_of c.answer.new.records in
    let still = c.settle.ensures.right right in
    goes_after era accounts c.args.account moment c.args.op.now c.answer.result a m b c.settle.ensures.quiet
    (answers_go era accounts distinct c.args.account moment m b before after still.now still.told
    (c.in-Ok.ensures.settled right) still.named c.args.op.now c.answer.result c.requires.own
    (subst (λ (xs : List Bytes). Answers (account_at xs c.args.account) m b before after c.args.op.now c.answer.result)
    c.settle.ensures.accounts c.answer.ensures.answers))

pub returns-in-Err-clause-edits : goal.returns-in-Err-clause-edits
returns-in-Err-clause-edits g c =
    edits_none (g.B.Board.disk (board_of c.args.records.now)) (g.B.Board.disk (board_of c.settle.new.records))
    (edits_of c.args.op.now) (Failed ≢ Failed) (λ none. none refl)
    c.settle.ensures.quiet c.settle.ensures.goes

pub returns-in-Err-clause-right : goal.returns-in-Err-clause-right
returns-in-Err-clause-right g c = λ right. unsettled_right (g.B.Board.disk (board_of c.settle.new.records))
    (memory_of c.settle.new.records) c.args.unsettled Failed refl (c.settle.ensures.right right)

pub returns-in-Err-clause-goes : goal.returns-in-Err-clause-goes
returns-in-Err-clause-goes g c = λ era moment distinct right.
    goes_failed era (accounts_of c.args.records.now) c.args.account moment c.args.op.now Failed
    (g.B.Board.disk (board_of c.args.records.now)) (g.B.Board.disk (board_of c.settle.new.records)) refl
    c.requires.own c.settle.ensures.quiet
