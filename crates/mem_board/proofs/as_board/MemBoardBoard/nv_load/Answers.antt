use Rattle.mem_board.proofs.NextChange.{looks_unchanged}
use Rattle.mem_board.proofs.as_board.MemBoardBoard.nv_load.Goals as goal

pub returns-in_err-look-clause-unchanged : goal.returns-in_err-look-clause-unchanged
returns-in_err-look-clause-unchanged c = looks_unchanged _ _ _ c.look.ensures.looks

pub returns-clause-unchanged : goal.returns-clause-unchanged
returns-clause-unchanged c = looks_unchanged _ _ _ c.look.ensures.looks
