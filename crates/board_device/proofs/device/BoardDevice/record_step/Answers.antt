use Rattle.std.proofs.Common.{refl}
use Rattle.image_path.proofs.StandLemmas.{lawful}
use Rattle.platform_core.specs.Held as held
use Rattle.board_device.specs.Device.{board_of}
use Rattle.board_device.proofs.MadeLemmas.{made_record, fails_as_made}
use Rattle.board_device.proofs.device.BoardDevice.record_step.Goals as goal

pub returns-clause-made : goal.returns-clause-made
returns-clause-made g c =
    let old = c.args.self.now in
    let before = board_of old in
    let after = held.board_of c.step-step.new.self in
    let made = c.step-step in
    made_record g.B.Board.disk g.B.Board.faults old _ c.args.account c.args.moment c.args.op made.result
    made.ensures.step made.ensures.accounts refl refl old.platform.distinct
    (lawful (g.B.Board.disk before) (g.met.B.Board.counts_now before) (g.met.B.Board.only_now before))
    (lawful (g.B.Board.disk after) (g.met.B.Board.counts_now after) (g.met.B.Board.only_now after))
    c.requires.own made.ensures.edits made.ensures.right made.ensures.goes made.ensures.chain
    c.answered.result.answer c.answered.result.step c.answered.ensures.step c.answered.ensures.answer
    (fails_as_made (g.B.Board.faults before) (g.B.Board.faults after) made.result c.answered.result.step
    c.answered.ensures.step made.ensures.cause)

pub returns-clause-cause : goal.returns-clause-cause
returns-clause-cause g c =
    fails_as_made (g.B.Board.faults (board_of c.args.self.now)) (g.B.Board.faults (held.board_of c.step-step.new.self))
    c.step-step.result c.answered.result.step c.answered.ensures.step c.step-step.ensures.cause
