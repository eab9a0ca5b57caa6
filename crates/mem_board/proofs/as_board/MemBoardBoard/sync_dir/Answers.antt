use Rattle.std.proofs.Common.{refl}
use Rattle.mem_board.specs.declared.change.Change.TheVariants.{SyncDir}
use Rattle.mem_board.proofs.NextChange.{dir_unchanged}
use Rattle.mem_board.proofs.as_board.MemBoardBoard.sync_dir.Goals as goal

pub returns-clause-unchanged : goal.returns-clause-unchanged
returns-clause-unchanged c = dir_unchanged _ _ _ (c.change.ensures.changes (SyncDir) refl)
