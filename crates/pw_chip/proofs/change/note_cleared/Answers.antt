use Rattle.std.proofs.Common.{◌≡◌, IfOk, ◌∙◌, ap, subst, arith}
use Rattle.pw_leaf.specs.declared.keys.ChipKeys.{ChipKeys}
use Rattle.pw_leaf.specs.Contents.{cleared}
use Rattle.pw_leaf.specs.LeafBytes.{leaf_bytes}
use Rattle.pw_leaf.specs.Reading.{check_at}
use Rattle.pw_chip.specs.Step.{logged}
use Rattle.pw_chip.specs.Held.{held}
use Rattle.pw_chip.proofs.StepLemmas.{at_ok, entry_of-leaf_bytes}
use Rattle.pw_chip.proofs.change.note_cleared.Goals as goal

-- the record that is noted is that of the changed contents
pub returns-clause-after : goal.returns-clause-after
returns-clause-after c =
    let w = c.args.words.now in
    let opened = c.args.opened.now in
    let told = subst (λ (k : ChipKeys). IfOk (check_at k opened.bytes) (λ x. c.clear-leaf.result ≡ leaf_bytes k (cleared x))) c.keys.ensures c.clear-leaf.ensures in
    let same : c.clear-leaf.result ≡ leaf_bytes w.keys (cleared (held opened)) =
    at_ok (λ x. c.clear-leaf.result ≡ leaf_bytes w.keys (cleared x)) (check_at w.keys opened.bytes) (held opened) c.requires.checked told in
    c.note_leaf.ensures ∙ ap (logged w) (entry_of-leaf_bytes w c.args.operation c.args.verdict opened.leaf.label c.args.aux.now c.args.now (cleared (held opened)) c.clear-leaf.result same (omega arith))
