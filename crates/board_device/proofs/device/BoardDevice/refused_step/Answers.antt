use Rattle.std.proofs.Common.{refl, sym, subst, None, Result}
use Rattle.image_path.proofs.StandLemmas.{lawful}
use Rattle.share_api.specs.declared.fault.ShareFault.{ShareFault}
use Rattle.share_api.specs.declared.step.Reply.{Reply}
use Rattle.share_api.specs.declared.step.Reply.TheVariants.{Failed}
use Rattle.platform_lock.specs.Answers.{IsAnswerTo}
use Rattle.platform_lock.specs.declared.answer.Answer.{Answer}
use Rattle.board_device.specs.Device.{board_of}
use Rattle.board_device.proofs.AnswerLemmas.{failed_answer}
use Rattle.board_device.proofs.IdleLemmas.{failed_idle}
use Rattle.board_device.proofs.MadeLemmas.{made_idle}
use Rattle.board_device.proofs.device.BoardDevice.refused_step.Goals as goal

-- the platform isn't asked
pub returns-clause-made : goal.returns-clause-made
returns-clause-made g c =
    let old = c.args.self.now in
    let board = board_of old in
    let op = c.args.op in
    made_idle g.B.Board.disk g.B.Board.faults old _ c.args.account c.args.moment op
    c.refuse-answer.result.0 c.refuse-answer.result.1 refl refl
    (lawful (g.B.Board.disk board) (g.met.B.Board.counts_now board) (g.met.B.Board.only_now board))
    (λ era. failed_idle era c.args.account c.args.moment op c.refuse-answer.result.1 c.refuse-answer.ensures.reply)
    (subst (λ (reply : Reply). IsAnswerTo None op c.refuse-answer.result.0 reply) (sym c.refuse-answer.ensures.reply)
    (subst (λ (answer : Result Answer ShareFault). IsAnswerTo None op answer Failed)
    (sym c.refuse-answer.ensures.answer)
    (failed_answer op)))
    c.refuse-answer.ensures.cause
