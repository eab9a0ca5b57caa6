use Rattle.std.proofs.Common.{refl}
use Rattle.board_model.specs.Disk.{Same}
use Rattle.board_model.proofs.Effects.{leaves_none, goes_same}
use Rattle.leaf_calls.proofs.due.write.Goals as goal

-- nothing is due

pub returns-in-Nothing-clause-any_moment : goal.returns-in-Nothing-clause-any_moment
returns-in-Nothing-clause-any_moment g c =
    let disk = g.B.Board.disk c.args.board.now in
    rw c.in-Nothing.is (leaves_none disk Same (λ i. refl) (g.met.B.Board.only_now c.args.board.now))

pub returns-in-Nothing-clause-durable : goal.returns-in-Nothing-clause-durable
returns-in-Nothing-clause-durable g c = rw c.in-Nothing.is (λ i left. (i, left, refl))

pub returns-in-Nothing-clause-done : goal.returns-in-Nothing-clause-done
returns-in-Nothing-clause-done g c = rw c.in-Nothing.is (goes_same (g.B.Board.disk c.args.board.now))

pub returns-in-Nothing-clause-done_or_not : goal.returns-in-Nothing-clause-done_or_not
returns-in-Nothing-clause-done_or_not g c = rw c.in-Nothing.is (goes_same (g.B.Board.disk c.args.board.now))

-- the words and a record are written

pub returns-in-Put-clause-durable : goal.returns-in-Put-clause-durable
returns-in-Put-clause-durable g c = rw c.in-Put.is c.store_and_put.ensures.durable

pub returns-in-Remove-clause-durable : goal.returns-in-Remove-clause-durable
returns-in-Remove-clause-durable g c = rw c.in-Remove.is c.store_and_remove.ensures.durable
