use Rattle.mem_board.proofs.NextChange.{looks_unchanged}
use Rattle.mem_board.proofs.as_board.MemBoardBoard.list.Goals as goal

pub returns-in-Ok-names-clause-unchanged : goal.returns-in-Ok-names-clause-unchanged
returns-in-Ok-names-clause-unchanged c = looks_unchanged _ _ _ c.look.ensures.looks

pub returns-in-Err-names-clause-unchanged : goal.returns-in-Err-names-clause-unchanged
returns-in-Err-names-clause-unchanged c = looks_unchanged _ _ _ c.look.ensures.looks

pub returns-in-Err-clause-unchanged : goal.returns-in-Err-clause-unchanged
returns-in-Err-clause-unchanged c = looks_unchanged _ _ _ c.look.ensures.looks
