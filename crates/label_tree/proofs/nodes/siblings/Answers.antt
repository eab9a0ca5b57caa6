use Rattle.std.proofs.Common.{◌≡◌, ◌+◌, ◌-◌, ◌<◌, ◌++◌, length, take, suc, rules, refl, sym, ◌∙◌, ap, arith}
use Rattle.std.proofs.lemmas.List.{take_all, append-nil}
use Rattle.label_tree.specs.Nodes.{rows_at}
use Rattle.label_tree.proofs.NodeLemmas.{below_next, below_start, rows_more, rows_none}
use Rattle.label_tree.proofs.nodes.siblings.Goals as goal

pub loop-level-init : goal.loop-level-init
loop-level-init c = record {
  size = refl;
  below = below_start c.number-place.result c.number-place.ensures.within;
  made = ap (λ at. rows_at c.args.nodes.now at 7) c.number-place.ensures.value;
}

pub row_at-row-requires-clause-below_root : goal.row_at-row-requires-clause-below_root
row_at-row-requires-clause-below_root c =
    let n = 7 - (c.loop-level.level + 1) in
    let e : 7 - c.loop-level.level ≡ suc n = omega arith in
    let next = below_next c.loop-level.place n (rw (← e) c.loop-level.invariant.below) in
    next.0

pub loop-level-preserved : goal.loop-level-preserved
loop-level-preserved c =
    let level = c.loop-level.level in
    let n = 7 - (level + 1) in
    let e : 7 - level ≡ suc n = omega arith in
    let inv = c.loop-level.invariant in
    let inside : level < length c.loop-level.rows = omega arith in
    record {
      size = search rules;
      below = let next = below_next c.loop-level.place n (rw (← e) inv.below) in next.1;
      made =
          rows_more c.args.nodes.now c.loop-level.rows c.loop-level.place level n c.row_at-row.result inside c.row_at-row.ensures
          ∙ ap (λ m. take level c.loop-level.rows ++ rows_at c.args.nodes.now c.loop-level.place m) (sym e)
          ∙ inv.made;
    }

pub returns-clause-rows : goal.returns-clause-rows
returns-clause-rows c =
    let inv = c.loop-level.invariant in
    let level : c.loop-level.level ≡ 7 = omega arith in
    let none : 7 - c.loop-level.level ≡ 0 = omega arith in
    sym (append-nil c.loop-level.rows)
    ∙ sym (ap (λ rest. c.loop-level.rows ++ rest) (rows_none c.args.nodes.now c.loop-level.place))
    ∙ sym (ap (λ front. front ++ rows_at c.args.nodes.now c.loop-level.place 0) (take_all c.loop-level.level c.loop-level.rows (omega arith)))
    ∙ sym (ap (λ m. take c.loop-level.level c.loop-level.rows ++ rows_at c.args.nodes.now c.loop-level.place m) none)
    ∙ inv.made
