use Rattle.std.proofs.Common.{sym, ◌∙◌, ap}
use Rattle.std.specs.FinMap.{get, find}
use Rattle.name_map.proofs.RowLemmas.{order}
use Rattle.name_map.proofs.Maps.{get-rows}
use Rattle.name_map.proofs.map.NameMap.get.Goals as goal

pub returns : goal.returns
returns g c =
    c.found.ensures ∙ ap (find order c.args.name.now) c.deref.ensures.value ∙ sym (get-rows c.self.inside.rows.items c.args.name.now c.self.invariant)
    ∙ ap (λ m. get m c.args.name.now) c.self.view_is
