use Rattle.std.proofs.Common.{◌≡◌, drop}
use Rattle.mem_share.specs.Fails.{listed_at}
use Rattle.mem_share.proofs.fail.listed_at.Given as goal

-- no entry so far is for the number
abbrev pub invariant-loop-fail : goal.invariant-loop-fail
invariant-loop-fail l = listed_at (drop l.fail-index l.fails) l.number ≡ listed_at l.fails l.number
