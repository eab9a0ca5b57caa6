use Rattle.std.proofs.Common.{refl}
use Rattle.image_path.proofs.StandLemmas.{lawful}
use Rattle.board_device.specs.Device.{board_of}
use Rattle.board_device.proofs.IdleLemmas.{reply_idle}
use Rattle.board_device.proofs.MadeLemmas.{made_idle}
use Rattle.board_device.proofs.device.BoardDevice.leaf_step.Goals as goal

-- the platform isn't asked
pub returns-clause-made : goal.returns-clause-made
returns-clause-made g c =
    let old = c.args.self.now in
    let board = board_of old in
    made_idle g.B.Board.disk g.B.Board.faults old _ c.args.account c.args.moment c.args.op
    c.leaf_answer-answer.result.0 c.leaf_answer-answer.result.1 refl refl
    (lawful (g.B.Board.disk board) (g.met.B.Board.counts_now board) (g.met.B.Board.only_now board))
    (λ era. reply_idle era c.args.account c.args.moment c.args.op c.leaf_answer-answer.result.1
    c.leaf_answer-answer.ensures.reply)
    c.leaf_answer-answer.ensures.answer c.leaf_answer-answer.ensures.cause
