use Rattle.std.proofs.Common.{sym, ◌∙◌, ap, subst}
use Rattle.std.specs.FinMap.{from_sorted, remove}
use Rattle.name_map.specs.Rows.{IsRows}
use Rattle.name_map.proofs.Maps.{IsRows-without, from_sorted-without}
use Rattle.name_map.proofs.map.NameMap.remove.Goals as goal

pub invariant_of-self : goal.invariant_of-self
invariant_of-self g c = subst IsRows (sym c.leave_out.ensures) (IsRows-without c.self.inside.rows.items c.args.name.now c.self.invariant)

pub returns : goal.returns
returns g c = ap from_sorted c.leave_out.ensures ∙ from_sorted-without c.self.inside.rows.items c.args.name.now c.self.invariant
    ∙ ap (λ m. remove m c.args.name.now) c.self.view_is
