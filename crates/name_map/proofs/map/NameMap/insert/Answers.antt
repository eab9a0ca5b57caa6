use Rattle.std.proofs.Common.{◌≡◌, sym, ◌∙◌, ap, subst, Ok, Err}
use Rattle.std.specs.Prelude.{OnOk, OnErr}
use Rattle.std.specs.FinMap.{insert, put, from_sorted}
use Rattle.name_map.specs.Rows.{IsRows}
use Rattle.name_map.proofs.RowLemmas.{order}
use Rattle.name_map.proofs.Maps.{IsRows-put, from_sorted-put}
use Rattle.name_map.proofs.map.NameMap.insert.Goals as goal

pub invariant_of-self : goal.invariant_of-self
invariant_of-self g c =
    let rows = c.self.inside.rows.items in
    let after = c.put.new.rows.items in
    elim c.put.result as (λ r. OnOk r (after ≡ put order c.args.name c.args.value rows) → OnErr r (after ≡ rows) → IsRows after) [
      | Ok done ↦ λ ok err. subst IsRows (sym ok) (IsRows-put rows c.args.name c.args.value c.self.invariant)
      | Err refused ↦ λ ok err. subst IsRows (sym err) c.self.invariant
    ] c.put.ensures.ok c.put.ensures.err

pub returns-clause-ok : goal.returns-clause-ok
returns-clause-ok g c =
    let rows = c.self.inside.rows.items in
    let after = c.put.new.rows.items in
    elim c.put.result as (λ r. OnOk r (after ≡ put order c.args.name c.args.value rows) → OnOk r (from_sorted after ≡ insert c.args.self.now c.args.name c.args.value)) [
      | Ok done ↦ λ ok. ap from_sorted ok ∙ from_sorted-put rows c.args.name c.args.value c.self.invariant ∙ ap (λ m. insert m c.args.name c.args.value) c.self.view_is
      | Err refused ↦ λ ok. tt
    ] c.put.ensures.ok
