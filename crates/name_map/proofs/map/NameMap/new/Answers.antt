use Rattle.std.proofs.Common.{ap, ◌∙◌}
use Rattle.std.specs.FinMap.{from_sorted}
use Rattle.name_map.proofs.Maps.{empty-rows}
use Rattle.name_map.proofs.map.NameMap.new.Goals as goal

pub returns : goal.returns
returns g c = ap from_sorted c.new.ensures.items ∙ empty-rows
