use Rattle.std.proofs.Common.{sym, ◌∙◌}
use Rattle.pin_edits.proofs.FreeLeaves.{free_leaf, taken_leaf}
use Rattle.pin_edits.proofs.setting.named_row.Goals as goal

-- no loaded record names the leaf
pub returns-clause-free : goal.returns-clause-free
returns-clause-free c = λ _.
    free_leaf c.args.tree c.args.rows.now (sym c.names_leaf.ensures.value ∙ c.if-names_leaf.false)

-- one names it
pub returns-then-names_leaf-clause-taken : goal.returns-then-names_leaf-clause-taken
returns-then-names_leaf-clause-taken c = λ name _.
    taken_leaf c.args.tree c.args.rows.now (sym c.names_leaf.ensures.value ∙ c.if-names_leaf.true)
