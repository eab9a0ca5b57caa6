use Rattle.mem_board.specs.declared.change.Change.TheVariants.{Remove}
use Rattle.mem_board.proofs.NextChange.{changes_done, changes_leaves, changes_or_not, changes_tick}
use Rattle.mem_board.proofs.as_board.MemBoardBoard.remove.Goals as goal

pub returns-clause-done : goal.returns-clause-done
returns-clause-done c = changes_done _ _ _ (Remove c.args.name.now) (c.change.ensures.changes (Remove c.args.name.now) c.removal_of-change.ensures.value)

pub returns-clause-done_or_not : goal.returns-clause-done_or_not
returns-clause-done_or_not c = changes_or_not _ _ _ (Remove c.args.name.now) (c.change.ensures.changes (Remove c.args.name.now) c.removal_of-change.ensures.value)

pub returns-clause-crash : goal.returns-clause-crash
returns-clause-crash c = changes_leaves _ _ _ (Remove c.args.name.now) (c.change.ensures.changes (Remove c.args.name.now) c.removal_of-change.ensures.value)

pub returns-clause-ticks : goal.returns-clause-ticks
returns-clause-ticks c = changes_tick _ _ _ (Remove c.args.name.now) (c.change.ensures.changes (Remove c.args.name.now) c.removal_of-change.ensures.value)

pub returns-clause-counted : goal.returns-clause-counted
returns-clause-counted c = c.change.ensures.changes (Remove c.args.name.now) c.removal_of-change.ensures.value
