use Rattle.std.proofs.Common.{refl}
use Rattle.mem_board.specs.declared.change.Change.TheVariants.{Write}
use Rattle.mem_board.proofs.NextChange.{changes_leaves, changes_tick, goes_but, write_done}
use Rattle.mem_board.proofs.as_board.MemBoardBoard.write_temp.Goals as goal

pub returns-clause-written : goal.returns-clause-written
returns-clause-written c = write_done _ _ _ c.args.name.now c.args.bytes.now (c.change.ensures.changes (Write c.args.name.now c.args.bytes.now) c.write_of-change.ensures.value)

pub returns-clause-goes : goal.returns-clause-goes
returns-clause-goes c = goes_but _ _ _ (Write c.args.name.now c.args.bytes.now) c.args.name.now refl (c.change.ensures.changes (Write c.args.name.now c.args.bytes.now) c.write_of-change.ensures.value)

pub returns-clause-crash : goal.returns-clause-crash
returns-clause-crash c = changes_leaves _ _ _ (Write c.args.name.now c.args.bytes.now) (c.change.ensures.changes (Write c.args.name.now c.args.bytes.now) c.write_of-change.ensures.value)

pub returns-clause-ticks : goal.returns-clause-ticks
returns-clause-ticks c = changes_tick _ _ _ (Write c.args.name.now c.args.bytes.now) (c.change.ensures.changes (Write c.args.name.now c.args.bytes.now) c.write_of-change.ensures.value)

pub returns-clause-counted : goal.returns-clause-counted
returns-clause-counted c = c.change.ensures.changes (Write c.args.name.now c.args.bytes.now) c.write_of-change.ensures.value
