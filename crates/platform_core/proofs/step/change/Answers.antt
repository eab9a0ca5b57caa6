use Rattle.std.proofs.Common.{sym, subst, ap, ◌∙◌}
use Rattle.share_api.specs.Contents.{Bytes}
use Rattle.share_api.specs.declared.step.Op.TheVariants.{Do}
use Rattle.share_api.specs.declared.step.Write.{Write}
use Rattle.share_api.specs.declared.step.Write.TheVariants.{Put}
use Rattle.platform_core.specs.Kept.{board_of, memory_of}
use Rattle.platform_core.specs.Standing.{Answers}
use Rattle.platform_core.proofs.step.change.Goals as goal

pub returns-in-Put-clause-answers : goal.returns-in-Put-clause-answers
returns-in-Put-clause-answers g c = λ account.
    subst (λ (w : Write). Answers account (g.B.Board.disk (board_of c.args.records.now))
    (g.B.Board.disk (board_of c.put.new.self)) (memory_of c.args.records.now) (memory_of c.put.new.self)
    (Do w) c.put.result)
    (ap (λ (bytes : Bytes). Put c.in-Put.name bytes) c.as_slice.ensures.value ∙ sym c.in-Put.is)
    (c.put.ensures.answers account)

pub returns-in-Remove-clause-answers : goal.returns-in-Remove-clause-answers
returns-in-Remove-clause-answers g c = λ account.
    subst (λ (w : Write). Answers account (g.B.Board.disk (board_of c.args.records.now))
    (g.B.Board.disk (board_of c.remove.new.self)) (memory_of c.args.records.now) (memory_of c.remove.new.self)
    (Do w) c.remove.result)
    (sym c.in-Remove.is) (c.remove.ensures.answers account)
