use Rattle.std.proofs.Common.{take}
use Rattle.platform_core.specs.Records.{IsRecordOf}
use Rattle.platform_core.specs.Picks.{Picked}
use Rattle.platform_core.proofs.names.own_names.Given as goal

-- the names are those among the names so far
abbrev pub invariant-loop-name : goal.invariant-loop-name
invariant-loop-name l = Picked (IsRecordOf l.account) (take l.name-index l.names) l.own.items
