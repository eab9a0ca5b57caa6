use Rattle.std.proofs.Common.{◌≡◌, true, false, Ok, Err, IfOk, subst, refl, sym, ◌∙◌, ap}
use Rattle.std.proofs.lemmas.Bool.{eq-eqb, ne_eqb}
use Rattle.pw_log.specs.declared.entry.LogEntry.{LogEntry}
use Rattle.pw_log.specs.Pair.{Entries}
use Rattle.pw_types.specs.Schedule.{limit_of}
use Rattle.pw_leaf.specs.declared.keys.ChipKeys.{ChipKeys}
use Rattle.pw_leaf.specs.Contents.{bumped, cleared}
use Rattle.pw_leaf.specs.LeafBytes.{leaf_bytes}
use Rattle.pw_leaf.specs.Reading.{check_at}
use Rattle.pw_chip.specs.declared.reply.Reply.TheVariants.{Locked, Replayed}
use Rattle.pw_chip.specs.Step.{opened}
use Rattle.pw_chip.specs.Held.{held}
use Rattle.pw_chip.proofs.StepLemmas.{at_ok, replay_step-no_label, replay_step-other, replay_step-refused, replay_step-done, redone_cleared, redone_bumped, not_full-right, full-wrong}
use Rattle.pw_chip.proofs.step.replay.Goals as goal

pub returns-then-number-ge-LABELS : goal.returns-then-number-ge-LABELS
returns-then-number-ge-LABELS c = replay_step-no_label c.args.words.now c.args.number c.args.aux.now c.args.leaf.now c.if-number-ge-LABELS.true

pub returns-then-not-is_replayed : goal.returns-then-not-is_replayed
returns-then-not-is_replayed c =
    let w = c.args.words.now in
    let number = c.args.number in let aux = c.args.aux.now in let leaf = c.args.leaf.now in
    let entry = c.newest.result.now in
    let newest : w.log.newest ≡ entry = sym (c.newest.ensures.value ∙ ap (λ (l : Entries). l.newest) c.log.ensures) in
    replay_step-other w number aux leaf entry c.if-number-ge-LABELS.false newest (sym c.is_replayed.ensures ∙ c.if-not-is_replayed.true)

pub returns-in-Err : goal.returns-in-Err
returns-in-Err c =
    let w = c.args.words.now in
    let number = c.args.number in let aux = c.args.aux.now in let leaf = c.args.leaf.now in
    let entry = c.newest.result.now in
    let newest : w.log.newest ≡ entry = sym (c.newest.ensures.value ∙ ap (λ (l : Entries). l.newest) c.log.ensures) in
    let is = sym c.is_replayed.ensures ∙ c.if-not-is_replayed.false in
    let root : c.older.result.now.root ≡ w.log.older.root = ap (λ (e : LogEntry). e.root) (c.older.ensures.value ∙ ap (λ (l : Entries). l.older) c.log-2.ensures) in
    let o : opened w.keys w.log.older.root number aux leaf ≡ Err c.in-Err.refusal = sym (λ i. opened (c.keys.ensures i) (root i) number aux leaf) ∙ c.in-Err.ensures.refusal in
    replay_step-refused w number aux leaf entry c.if-number-ge-LABELS.false newest is c.in-Err.refusal o ∙ (λ i. (sym c.reply.ensures i, w))

-- a right try or a reset has cleared the leaf
pub returns-then-entry-ne-WRONG : goal.returns-then-entry-ne-WRONG
returns-then-entry-ne-WRONG c =
    let w = c.args.words.now in
    let number = c.args.number in let aux = c.args.aux.now in let leaf = c.args.leaf.now in
    let entry = c.newest.result.now in
    let newest : w.log.newest ≡ entry = sym (c.newest.ensures.value ∙ ap (λ (l : Entries). l.newest) c.log.ensures) in
    let is = sym c.is_replayed.ensures ∙ c.if-not-is_replayed.false in
    let root : c.older.result.now.root ≡ w.log.older.root = ap (λ (e : LogEntry). e.root) (c.older.ensures.value ∙ ap (λ (l : Entries). l.older) c.log-2.ensures) in
    let x = held c.in-Ok.opened in
    let o : opened w.keys w.log.older.root number aux leaf ≡ Ok x = sym (λ i. opened (c.keys.ensures i) (root i) number aux leaf) ∙ c.in-Ok.ensures.found in
    let told = subst (λ (k : ChipKeys). IfOk (check_at k c.in-Ok.opened.bytes) (λ y. c.clear.result ≡ leaf_bytes k (cleared y))) c.keys-then-entry-ne-WRONG.ensures c.clear.ensures in
    let checked : check_at w.keys c.in-Ok.opened.bytes ≡ Ok x = sym (ap (λ k. check_at k c.in-Ok.opened.bytes) c.keys.ensures) ∙ c.in-Ok.ensures.checked in
    let same = at_ok (λ y. c.clear.result ≡ leaf_bytes w.keys (cleared y)) (check_at w.keys c.in-Ok.opened.bytes) x checked told in
    replay_step-done w number aux leaf entry c.if-number-ge-LABELS.false newest is x o false (not_full-right entry.verdict x c.if-entry-ne-WRONG.true) (Replayed c.clear.result)
    (ap (λ b. Replayed b) (same ∙ ap (leaf_bytes w.keys) (sym (redone_cleared entry.verdict entry.stamp x c.if-entry-ne-WRONG.true))))

-- a wrong try can't have had no try left
pub returns-then-opened-limit : goal.returns-then-opened-limit
returns-then-opened-limit c =
    let w = c.args.words.now in
    let number = c.args.number in let aux = c.args.aux.now in let leaf = c.args.leaf.now in
    let entry = c.newest.result.now in
    let newest : w.log.newest ≡ entry = sym (c.newest.ensures.value ∙ ap (λ (l : Entries). l.newest) c.log.ensures) in
    let is = sym c.is_replayed.ensures ∙ c.if-not-is_replayed.false in
    let root : c.older.result.now.root ≡ w.log.older.root = ap (λ (e : LogEntry). e.root) (c.older.ensures.value ∙ ap (λ (l : Entries). l.older) c.log-2.ensures) in
    let x = held c.in-Ok.opened in
    let o : opened w.keys w.log.older.root number aux leaf ≡ Ok x = sym (λ i. opened (c.keys.ensures i) (root i) number aux leaf) ∙ c.in-Ok.ensures.found in
    let full = full-wrong entry.verdict x c.if-entry-ne-WRONG.false ∙ eq-eqb x.wrong (limit_of x.schedule) (c.if-opened-limit.true ∙ c.limit.ensures) in
    replay_step-done w number aux leaf entry c.if-number-ge-LABELS.false newest is x o true full Locked refl

-- a wrong try has counted
pub returns : goal.returns
returns c =
    let w = c.args.words.now in
    let number = c.args.number in let aux = c.args.aux.now in let leaf = c.args.leaf.now in
    let entry = c.newest.result.now in
    let newest : w.log.newest ≡ entry = sym (c.newest.ensures.value ∙ ap (λ (l : Entries). l.newest) c.log.ensures) in
    let is = sym c.is_replayed.ensures ∙ c.if-not-is_replayed.false in
    let root : c.older.result.now.root ≡ w.log.older.root = ap (λ (e : LogEntry). e.root) (c.older.ensures.value ∙ ap (λ (l : Entries). l.older) c.log-2.ensures) in
    let x = held c.in-Ok.opened in
    let o : opened w.keys w.log.older.root number aux leaf ≡ Ok x = sym (λ i. opened (c.keys.ensures i) (root i) number aux leaf) ∙ c.in-Ok.ensures.found in
    let told = subst (λ (k : ChipKeys). IfOk (check_at k c.in-Ok.opened.bytes) (λ y. c.bump.result ≡ leaf_bytes k (bumped entry.stamp y))) c.keys-2.ensures c.bump.ensures in
    let checked : check_at w.keys c.in-Ok.opened.bytes ≡ Ok x = sym (ap (λ k. check_at k c.in-Ok.opened.bytes) c.keys.ensures) ∙ c.in-Ok.ensures.checked in
    let same = at_ok (λ y. c.bump.result ≡ leaf_bytes w.keys (bumped entry.stamp y)) (check_at w.keys c.in-Ok.opened.bytes) x checked told in
    let room = full-wrong entry.verdict x c.if-entry-ne-WRONG.false ∙ ne_eqb x.wrong (limit_of x.schedule) (λ e. c.if-opened-limit.false (e ∙ sym c.limit.ensures)) in
    replay_step-done w number aux leaf entry c.if-number-ge-LABELS.false newest is x o false room (Replayed c.bump.result)
    (ap (λ b. Replayed b) (same ∙ ap (leaf_bytes w.keys) (sym (redone_bumped entry.verdict entry.stamp x c.if-entry-ne-WRONG.false))))
