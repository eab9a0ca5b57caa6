use Rattle.std.proofs.Common.{length, sym, ap, ◌∙◌, arith}
use Rattle.turn_reload.proofs.EditionLemmas.{editions_size, all_same}
use Rattle.turn_reload.proofs.editions.are_same_blocks.Goals as goal

-- there are more of one
pub returns-then-count-clause-differ : goal.returns-then-count-clause-differ
returns-then-count-clause-differ c = λ _ same.
    c.if-count.true (c.count.ensures.value ∙ (sym (editions_size c.args.one.now) ∙ ap length same ∙ editions_size c.args.other.now)
    ∙ sym c.count-2.ensures.value)

-- all places are the same
pub returns-clause-same : goal.returns-clause-same
returns-clause-same c = λ _.
    let one = c.count.ensures.value in
    let two = c.count-2.ensures.value in
    let same = c.if-count.false in
    let last = c.count-at-end.ensures.value in
    let past = c.places-test.false in
    all_same c.args.one.now c.args.other.now c.places.at (sym one ∙ same ∙ two) (omega (arith, last, past)) c.places.invariant
