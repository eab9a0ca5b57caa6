use Rattle.std.proofs.Common.{ℕ, ◌<◌}
use Rattle.pw_types.specs.Schedule.{KeepsRules}
use Rattle.pw_types.proofs.schedule.Schedule.new.Given as goal

abbrev pub invariant-loop-index : goal.invariant-loop-index
invariant-loop-index l = (k : ℕ) → k < l.index → KeepsRules l.pairs k
