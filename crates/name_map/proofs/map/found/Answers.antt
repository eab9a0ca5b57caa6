use Rattle.std.proofs.Common.{sym, ◌∙◌}
use Rattle.name_map.proofs.RowLemmas.{find-step}
use Rattle.name_map.proofs.map.found.Goals as goal

-- this row has the name
pub returns-then-eq : goal.returns-then-eq
returns-then-eq g c =
    sym (c.loop-row.invariant ∙ find-step _ _ _ c.row-item.result _ c.loop-row-test.true c.row-item.is (sym c.eq.ensures ∙ c.if-eq.true))

-- this row has another
pub loop-row-preserved : goal.loop-row-preserved
loop-row-preserved g c =
    c.loop-row.invariant ∙ find-step _ _ _ c.row-item.result _ c.loop-row-test.true c.row-item.is (sym c.eq.ensures ∙ c.if-eq.false)
