use Rattle.std.proofs.Common.{sym, ◌∙◌, ap}
use Rattle.std.specs.FinMap.{entries}
use Rattle.name_map.proofs.Maps.{entries-rows}
use Rattle.name_map.proofs.map.NameMap.rows.Goals as goal

pub returns : goal.returns
returns g c = c.deref.ensures.value ∙ sym (entries-rows c.self.inside.rows.items c.self.invariant) ∙ ap entries c.self.view_is
