use Rattle.mem_board.proofs.NextChange.{looks_unchanged}
use Rattle.mem_board.proofs.as_board.MemBoardBoard.read.Goals as goal

pub returns-in-Ok-read-clause-unchanged : goal.returns-in-Ok-read-clause-unchanged
returns-in-Ok-read-clause-unchanged c = looks_unchanged _ _ _ c.look.ensures.looks

pub returns-in-Err-read-clause-unchanged : goal.returns-in-Err-read-clause-unchanged
returns-in-Err-read-clause-unchanged c = looks_unchanged _ _ _ c.look.ensures.looks

pub returns-in-Err-clause-unchanged : goal.returns-in-Err-clause-unchanged
returns-in-Err-clause-unchanged c = looks_unchanged _ _ _ c.look.ensures.looks
