use Rattle.user_opening_tests.specs.Ready.{IsReady}
use Rattle.user_opening_tests.proofs.support.check.Given as goal

-- a turn can begin
abbrev pub invariant-loop-ask : goal.invariant-loop-ask
invariant-loop-ask l = IsReady l.state l.share
