use Rattle.std.proofs.Common.{refl}
use Rattle.mem_board.specs.declared.change.Change.TheVariants.{SyncTemp}
use Rattle.mem_board.proofs.NextChange.{changes_leaves, changes_tick, goes_but, sync_same, sync_synced, sync_whole}
use Rattle.mem_board.proofs.as_board.MemBoardBoard.sync_temp.Goals as goal

pub returns-clause-whole : goal.returns-clause-whole
returns-clause-whole c = sync_whole _ _ _ c.args.name.now (c.change.ensures.changes (SyncTemp c.args.name.now) c.sync_of-change.ensures.value)

pub returns-clause-synced : goal.returns-clause-synced
returns-clause-synced c = sync_synced _ _ _ c.args.name.now (c.change.ensures.changes (SyncTemp c.args.name.now) c.sync_of-change.ensures.value)

pub returns-clause-same : goal.returns-clause-same
returns-clause-same c = sync_same _ _ _ c.args.name.now (c.change.ensures.changes (SyncTemp c.args.name.now) c.sync_of-change.ensures.value)

pub returns-clause-goes : goal.returns-clause-goes
returns-clause-goes c = goes_but _ _ _ (SyncTemp c.args.name.now) c.args.name.now refl (c.change.ensures.changes (SyncTemp c.args.name.now) c.sync_of-change.ensures.value)

pub returns-clause-crash : goal.returns-clause-crash
returns-clause-crash c = changes_leaves _ _ _ (SyncTemp c.args.name.now) (c.change.ensures.changes (SyncTemp c.args.name.now) c.sync_of-change.ensures.value)

pub returns-clause-ticks : goal.returns-clause-ticks
returns-clause-ticks c = changes_tick _ _ _ (SyncTemp c.args.name.now) (c.change.ensures.changes (SyncTemp c.args.name.now) c.sync_of-change.ensures.value)

pub returns-clause-counted : goal.returns-clause-counted
returns-clause-counted c = c.change.ensures.changes (SyncTemp c.args.name.now) c.sync_of-change.ensures.value
