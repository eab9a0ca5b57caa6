use Rattle.std.proofs.Common.{refl}
use Rattle.board_model.specs.Disk.{Same}
use Rattle.board_model.proofs.Effects.{leaves_none, goes_same}
use Rattle.chip_replay.proofs.writing.put_record.Goals as goal

-- there is a name

pub returns-in-Some-clause-durable : goal.returns-in-Some-clause-durable
returns-in-Some-clause-durable g c = rw c.in-Some.is c.put.ensures.durable

-- there is none: nothing is written

pub returns-in-None-clause-any_moment : goal.returns-in-None-clause-any_moment
returns-in-None-clause-any_moment g c =
    rw c.in-None.is (leaves_none (g.B.Board.disk c.args.board.now) Same (λ i. refl) (g.met.B.Board.only_now c.args.board.now))

pub returns-in-None-clause-durable : goal.returns-in-None-clause-durable
returns-in-None-clause-durable g c = rw c.in-None.is (λ i left. (i, left, refl))

pub returns-in-None-clause-done : goal.returns-in-None-clause-done
returns-in-None-clause-done g c = rw c.in-None.is (goes_same (g.B.Board.disk c.args.board.now))

pub returns-in-None-clause-done_or_not : goal.returns-in-None-clause-done_or_not
returns-in-None-clause-done_or_not g c = rw c.in-None.is (goes_same (g.B.Board.disk c.args.board.now))
