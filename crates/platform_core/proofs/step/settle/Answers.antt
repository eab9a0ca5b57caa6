use Rattle.std.proofs.Common.{refl}
use Rattle.board_model.specs.Disk.{Same}
use Rattle.board_model.proofs.Effects.{leaves_none, goes_same}
use Rattle.cabinet.specs.Held as cabinets
use Rattle.platform_core.specs.Kept.{board_of, memory_of}
use Rattle.platform_core.proofs.BoardLemmas.{right_unchanged, on_ok_from}
use Rattle.platform_core.proofs.step.settle.Goals as goal

pub returns-then-unsettled-clause-right : goal.returns-then-unsettled-clause-right
returns-then-unsettled-clause-right g c =
    right_unchanged (g.B.Board.disk (board_of c.args.records.now)) (g.B.Board.disk
    (cabinets.board_of c.settle.new.self)) (memory_of c.args.records.now) _ c.args.unsettled
    c.settle.ensures.unchanged c.settle.ensures.names refl

-- the sync makes certain what is there
pub returns-then-unsettled-clause-settled : goal.returns-then-unsettled-clause-settled
returns-then-unsettled-clause-settled g c = on_ok_from c.settle.result
    (λ ok right. c.settle.ensures.settled ok right.agrees)

pub returns-else-unsettled-clause-quiet : goal.returns-else-unsettled-clause-quiet
returns-else-unsettled-clause-quiet g c = leaves_none (g.B.Board.disk (board_of c.args.records.now)) Same (λ i. refl)
    (g.met.B.Board.only_now (board_of c.args.records.now))

pub returns-else-unsettled-clause-goes : goal.returns-else-unsettled-clause-goes
returns-else-unsettled-clause-goes g c = goes_same (g.B.Board.disk (board_of c.args.records.now))

pub returns-else-unsettled-clause-settled : goal.returns-else-unsettled-clause-settled
returns-else-unsettled-clause-settled g c = λ right. right.settled c.if-unsettled.false
