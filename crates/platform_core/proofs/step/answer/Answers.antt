use Rattle.std.proofs.Common.{sym, subst}
use Rattle.share_api.specs.declared.step.Op.{Op}
use Rattle.platform_core.specs.Records.{account_at}
use Rattle.platform_core.specs.Kept.{board_of, memory_of, accounts_of}
use Rattle.platform_core.specs.Standing.{Answers}
use Rattle.platform_core.proofs.step.answer.Goals as goal

pub returns-in-Get-clause-answers : goal.returns-in-Get-clause-answers
returns-in-Get-clause-answers g c =
    let account = account_at (accounts_of c.args.records.now) c.args.account in
    subst (λ (op : Op). Answers account (g.B.Board.disk (board_of c.args.records.now))
    (g.B.Board.disk (board_of c.get.new.self)) (memory_of c.args.records.now)
    (memory_of c.get.new.self) op c.get.result)
    (sym c.in-Get.is) (c.get.ensures.answers account)

pub returns-in-Do-clause-answers : goal.returns-in-Do-clause-answers
returns-in-Do-clause-answers g c =
    let account = account_at (accounts_of c.args.records.now) c.args.account in
    subst (λ (op : Op). Answers account (g.B.Board.disk (board_of c.args.records.now))
    (g.B.Board.disk (board_of c.change.new.records)) (memory_of c.args.records.now)
    (memory_of c.change.new.records) op c.change.result)
    (sym c.in-Do.is) (c.change.ensures.answers account)
