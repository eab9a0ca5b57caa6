use Rattle.std.proofs.Common.{◌≡◌, true, refl, sym, ◌∙◌, ap, arith}
use Rattle.std.specs.Prelude.{bytes_eq}
use Rattle.std.proofs.lemmas.Bool.{not-false}
use Rattle.pw_path.specs.Tree.{no_hash}
use Rattle.pw_path.specs.Path.{root_of}
use Rattle.pw_log.specs.declared.entry.TheConstants.{INSERT, NO_VERDICT}
use Rattle.pw_leaf.specs.Contents.{new_contents}
use Rattle.pw_leaf.specs.LeafBytes.{leaf_bytes}
use Rattle.pw_chip.specs.declared.reply.Reply.TheVariants.{Inserted}
use Rattle.pw_chip.specs.Step.{logged}
use Rattle.pw_chip.specs.Held.{entry_of}
use Rattle.pw_chip.proofs.StepLemmas.{entry_of-leaf_bytes, insert_step-ok}
use Rattle.pw_chip.proofs.step.insert.Goals as goal

pub returns : goal.returns
returns c =
    let w = c.args.words.now in
    let number = c.args.number in let aux = c.args.aux.now in let mac = c.args.mac.now in
    let secrets = c.args.secrets.now in
    let x = new_contents number secrets.les secrets.hes secrets.reset c.args.schedule.now c.args.iv in
    let found = c.in-Some.ensures.found in
    let label : c.in-Some.label ≡ number = c.in-Some.ensures.value in
    let path : root_of number mac aux ≡ c.root_of.result = sym (c.root_of.ensures ∙ ap (λ n. root_of n mac aux) label) in
    let in_tree : bytes_eq (root_of number mac aux) w.log.newest.root ≡ true =
    (λ i. bytes_eq (path i) (sym c.root.ensures i)) ∙ not-false (bytes_eq c.root_of.result c.root.result) (sym c.ne.ensures ∙ c.if-ne.false) in
    let empty : bytes_eq mac no_hash ≡ true = not-false (bytes_eq mac no_hash) (sym c.ne-2.ensures ∙ c.if-ne-2.false) in
    let leaf : c.make-leaf.result ≡ leaf_bytes w.keys x =
    c.make-leaf.ensures ∙ (λ i. leaf_bytes (c.keys.ensures i) (new_contents (label i) secrets.les secrets.hes secrets.reset c.args.schedule.now c.args.iv)) in
    let noted = c.note_leaf.ensures ∙ ap (λ n. logged w (entry_of w INSERT NO_VERDICT n aux c.make-leaf.result c.args.now)) label
    ∙ ap (logged w) (entry_of-leaf_bytes w INSERT NO_VERDICT number aux c.args.now x c.make-leaf.result leaf (omega arith)) in
    insert_step-ok w number aux mac x c.args.now (found.0 refl) in_tree empty ∙ (λ i. (Inserted (sym leaf i), sym noted i))
