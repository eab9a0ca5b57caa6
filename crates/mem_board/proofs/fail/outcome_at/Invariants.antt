use Rattle.std.proofs.Common.{◌≡◌, drop}
use Rattle.mem_board.specs.Fails.{listed_at}
use Rattle.mem_board.proofs.fail.outcome_at.Given as goal

-- no entry so far is for the number
abbrev pub invariant-loop-fail : goal.invariant-loop-fail
invariant-loop-fail l = listed_at (drop l.fail-index l.fails) l.number ≡ listed_at l.fails l.number
