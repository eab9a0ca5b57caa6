use Rattle.std.proofs.Common.{◌≡◌, [], arith, sym, ◌∙◌, ap}
use Rattle.std.specs.Prelude.{slice_index_or}
use Rattle.std.specs.Str.{bytes_eq}
use Rattle.std.proofs.lemmas.List.{get_or_default}
use Rattle.std.proofs.lemmas.Bool.{not-true, not-false}
use Rattle.pw_path.specs.Tree.{no_hash}
use Rattle.label_tree.specs.Values.{value_in}
use Rattle.label_tree.proofs.NodeLemmas.{used_none, used_stays, used_grows}
use Rattle.label_tree.proofs.nodes.used_count.Goals as goal
use Rattle.label_tree.proofs.nodes.used_count.Goals.{then-ne, else-ne}

pub loop-number-init : goal.loop-number-init
loop-number-init c = record { most = omega arith; counted = sym (used_none c.args.nodes.now) }

-- the label is counted exactly where its value isn't that of an empty one
pub loop-number-preserved : goal.loop-number-preserved
loop-number-preserved c =
    let nodes = c.args.nodes.now in
    let n = c.loop-number.number in
    let old = c.loop-number.invariant in
    let read : bytes_eq (value_in nodes n) no_hash ≡ bytes_eq (slice_index_or nodes n []) no_hash = ap (λ x. bytes_eq x no_hash) (get_or_default nodes n no_hash [] (omega arith)) in
    elim c.if-ne.branch [
      | then-ne w ↦
          let used = read ∙ not-true _ (sym c.ne.ensures ∙ w.if-ne.true) in
          record { most = omega arith; counted = w.count-is ∙ used_grows nodes n c.loop-number.count old.counted used }
      | else-ne w ↦
          let free = read ∙ not-false _ (sym c.ne.ensures ∙ w.if-ne.false) in
          record { most = omega arith; counted = w.count-is ∙ used_stays nodes n c.loop-number.count old.counted free }
    ]
