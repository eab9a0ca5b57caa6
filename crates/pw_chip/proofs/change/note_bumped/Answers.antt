use Rattle.std.proofs.Common.{◌≡◌, IfOk, ◌∙◌, ap, subst, arith}
use Rattle.pw_types.specs.declared.stamp.Stamp.{Stamp}
use Rattle.pw_leaf.specs.declared.keys.ChipKeys.{ChipKeys}
use Rattle.pw_leaf.specs.Contents.{bumped}
use Rattle.pw_leaf.specs.LeafBytes.{leaf_bytes}
use Rattle.pw_leaf.specs.Reading.{check_at}
use Rattle.pw_log.specs.declared.entry.TheConstants.{TRY, WRONG}
use Rattle.pw_chip.specs.Step.{logged}
use Rattle.pw_chip.specs.Held.{held}
use Rattle.pw_chip.proofs.StepLemmas.{at_ok, entry_of-leaf_bytes}
use Rattle.pw_chip.proofs.change.note_bumped.Goals as goal

-- the record that is noted is that of the changed contents
pub returns-clause-after : goal.returns-clause-after
returns-clause-after c =
    let w = c.args.words.now in
    let opened = c.args.opened.now in
    let stamp : Stamp = record { boot = w.boot; at = c.args.now } in
    let era = ap (λ (e : Stamp). e.boot) c.era-boot.ensures.value in
    let bumped_now = subst (λ b. IfOk (check_at c.keys.result.now opened.bytes) (λ x. c.bump-leaf.result ≡ leaf_bytes c.keys.result.now (bumped (record { boot = b; at = c.args.now }) x))) era c.bump-leaf.ensures in
    let told = subst (λ (k : ChipKeys). IfOk (check_at k opened.bytes) (λ x. c.bump-leaf.result ≡ leaf_bytes k (bumped stamp x))) c.keys.ensures bumped_now in
    let same : c.bump-leaf.result ≡ leaf_bytes w.keys (bumped stamp (held opened)) =
    at_ok (λ x. c.bump-leaf.result ≡ leaf_bytes w.keys (bumped stamp x)) (check_at w.keys opened.bytes) (held opened) c.requires.checked told in
    c.note_leaf.ensures ∙ ap (logged w) (entry_of-leaf_bytes w TRY WRONG opened.leaf.label c.args.aux.now c.args.now (bumped stamp (held opened)) c.bump-leaf.result same (omega arith))
