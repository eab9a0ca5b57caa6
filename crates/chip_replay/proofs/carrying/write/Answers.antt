use Rattle.std.proofs.Common.{refl, sym}
use Rattle.board_model.specs.Disk.{Same}
use Rattle.board_model.proofs.Effects.{leaves_none, goes_same}
use Rattle.chip_replay.proofs.carrying.write.Goals as goal

-- nothing is due: InStep

pub returns-in-InStep-clause-any_moment : goal.returns-in-InStep-clause-any_moment
returns-in-InStep-clause-any_moment g c =
    rw c.in-InStep.is (leaves_none (g.B.Board.disk c.args.board.now) Same (λ i. refl) (g.met.B.Board.only_now c.args.board.now))

pub returns-in-InStep-clause-durable : goal.returns-in-InStep-clause-durable
returns-in-InStep-clause-durable g c = rw c.in-InStep.is (λ i left. (i, left, refl))

pub returns-in-InStep-clause-done : goal.returns-in-InStep-clause-done
returns-in-InStep-clause-done g c = rw c.in-InStep.is (goes_same (g.B.Board.disk c.args.board.now))

pub returns-in-InStep-clause-done_or_not : goal.returns-in-InStep-clause-done_or_not
returns-in-InStep-clause-done_or_not g c = rw c.in-InStep.is (goes_same (g.B.Board.disk c.args.board.now))

-- nothing is due: Lost

pub returns-in-Lost-clause-any_moment : goal.returns-in-Lost-clause-any_moment
returns-in-Lost-clause-any_moment g c =
    rw c.in-Lost.is (leaves_none (g.B.Board.disk c.args.board.now) Same (λ i. refl) (g.met.B.Board.only_now c.args.board.now))

pub returns-in-Lost-clause-durable : goal.returns-in-Lost-clause-durable
returns-in-Lost-clause-durable g c = rw c.in-Lost.is (λ i left. (i, left, refl))

pub returns-in-Lost-clause-done : goal.returns-in-Lost-clause-done
returns-in-Lost-clause-done g c = rw c.in-Lost.is (goes_same (g.B.Board.disk c.args.board.now))

pub returns-in-Lost-clause-done_or_not : goal.returns-in-Lost-clause-done_or_not
returns-in-Lost-clause-done_or_not g c = rw c.in-Lost.is (goes_same (g.B.Board.disk c.args.board.now))

-- the words in which the insert is undone are stored

pub returns-in-Inserted-clause-durable : goal.returns-in-Inserted-clause-durable
returns-in-Inserted-clause-durable g c = rw (c.in-Inserted.is, sym c.write.ensures) c.nv_store.ensures.lasts

pub returns-in-Put-clause-durable : goal.returns-in-Put-clause-durable
returns-in-Put-clause-durable g c = rw c.in-Put.is c.put_record.ensures.durable

pub returns-in-Removed-clause-durable : goal.returns-in-Removed-clause-durable
returns-in-Removed-clause-durable g c = rw c.in-Removed.is c.remove_record.ensures.durable

pub returns-in-Emptied-clause-durable : goal.returns-in-Emptied-clause-durable
returns-in-Emptied-clause-durable g c = rw c.in-Emptied.is c.remove_record-in-Emptied.ensures.durable
