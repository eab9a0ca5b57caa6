use Rattle.std.proofs.Common.{◌≡◌, true, false, Ok, Err, refl, sym, ◌∙◌, ap}
use Rattle.std.specs.Prelude.{bytes_eq}
use Rattle.std.proofs.lemmas.Bool.{not-true, not-false}
use Rattle.pw_types.specs.declared.stamp.Stamp.{Stamp}
use Rattle.pw_log.specs.declared.entry.TheConstants.{RESET, NO_VERDICT}
use Rattle.pw_leaf.specs.Contents.{cleared}
use Rattle.pw_chip.specs.declared.reply.Reply.TheVariants.{Cleared, ResetWrong}
use Rattle.pw_chip.specs.Step.{opened, logged, leaf_entry}
use Rattle.pw_chip.specs.Held.{held}
use Rattle.pw_chip.proofs.StepLemmas.{reset_step-refused, reset_step-when}
use Rattle.pw_chip.proofs.step.reset_leaf.Goals as goal

pub returns-in-Err : goal.returns-in-Err
returns-in-Err c =
    let w = c.args.words.now in
    let number = c.args.number in let aux = c.args.aux.now in let leaf = c.args.leaf.now in
    let o : opened w.keys w.log.newest.root number aux leaf ≡ Err c.in-Err.refusal =
    sym (λ i. opened (c.keys.ensures i) (c.root.ensures i) number aux leaf) ∙ c.in-Err.ensures.refusal in
    reset_step-refused w number aux leaf c.args.reset.now c.args.now c.in-Err.refusal o ∙ (λ i. (sym c.reply.ensures i, w))

pub returns-then-ne : goal.returns-then-ne
returns-then-ne c =
    let w = c.args.words.now in
    let number = c.args.number in let aux = c.args.aux.now in let leaf = c.args.leaf.now in
    let x = held c.in-Ok.opened in
    let o : opened w.keys w.log.newest.root number aux leaf ≡ Ok x =
    sym (λ i. opened (c.keys.ensures i) (c.root.ensures i) number aux leaf) ∙ c.in-Ok.ensures.found in
    let test = not-true (bytes_eq x.reset c.args.reset.now) (sym c.ne.ensures ∙ c.if-ne.true) in
    reset_step-when w number aux leaf c.args.reset.now c.args.now x ResetWrong false o test refl

pub returns : goal.returns
returns c =
    let w = c.args.words.now in
    let number = c.args.number in let aux = c.args.aux.now in let leaf = c.args.leaf.now in
    let x = held c.in-Ok.opened in
    let stamp : Stamp = record { boot = w.boot; at = c.args.now } in
    let o : opened w.keys w.log.newest.root number aux leaf ≡ Ok x =
    sym (λ i. opened (c.keys.ensures i) (c.root.ensures i) number aux leaf) ∙ c.in-Ok.ensures.found in
    let test = not-false (bytes_eq x.reset c.args.reset.now) (sym c.ne.ensures ∙ c.if-ne.false) in
    let label = c.in-Ok.ensures.label in
    let after = c.note_cleared.ensures.after ∙ ap (λ l. logged w (leaf_entry w.keys RESET NO_VERDICT l aux (cleared x) stamp)) label.0 in
    reset_step-when w number aux leaf c.args.reset.now c.args.now x (Cleared c.note_cleared.result) true o test (ap (λ b. Cleared b) c.note_cleared.ensures.leaf)
    ∙ (λ i. (Cleared c.note_cleared.result, sym after i))
