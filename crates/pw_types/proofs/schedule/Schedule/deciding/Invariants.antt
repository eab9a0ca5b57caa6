use Rattle.std.proofs.Common.{◌≡◌, take}
use Rattle.pw_types.specs.Delay.{deciding}
use Rattle.pw_types.proofs.schedule.Schedule.deciding.Given as goal

abbrev pub invariant-loop-pair : goal.invariant-loop-pair
invariant-loop-pair l = (l.deciding ≡ deciding (take l.pair-index l.pair-items) l.wrong)
