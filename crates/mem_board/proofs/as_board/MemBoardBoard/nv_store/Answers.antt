use Rattle.std.proofs.Common.{refl}
use Rattle.mem_board.specs.declared.change.Change.TheVariants.{Store}
use Rattle.mem_board.proofs.NextChange.{changes_done, changes_leaves, changes_or_not, store_lasts}
use Rattle.mem_board.proofs.as_board.MemBoardBoard.nv_store.Goals as goal

pub returns-clause-lasts : goal.returns-clause-lasts
returns-clause-lasts c = store_lasts _ _ _ c.args.words.now (c.change.ensures.changes (Store c.args.words.now) refl)

pub returns-clause-done : goal.returns-clause-done
returns-clause-done c = changes_done _ _ _ (Store c.args.words.now) (c.change.ensures.changes (Store c.args.words.now) refl)

pub returns-clause-done_or_not : goal.returns-clause-done_or_not
returns-clause-done_or_not c = changes_or_not _ _ _ (Store c.args.words.now) (c.change.ensures.changes (Store c.args.words.now) refl)

pub returns-clause-crash : goal.returns-clause-crash
returns-clause-crash c = changes_leaves _ _ _ (Store c.args.words.now) (c.change.ensures.changes (Store c.args.words.now) refl)
