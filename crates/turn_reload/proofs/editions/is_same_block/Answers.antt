use Rattle.std.proofs.Common.{sym, ◌∙◌, true≢false, eq-eqb}
use Rattle.std.proofs.lemmas.Bool.{eqb-true}
use Rattle.std.proofs.lemmas.Slice.Eq.{bytes_eq-Decides}
use Rattle.turn_reload.proofs.EditionLemmas.{place_same, place_tells}
use Rattle.turn_reload.proofs.editions.is_same_block.Goals as goal

pub returns-then-eq-clause-same : goal.returns-then-eq-clause-same
returns-then-eq-clause-same c = λ e.
    let one = c.block-edition.ensures.value in
    let two = c.block-later.ensures.value in
    place_same c.args.one.now c.args.other.now c.args.at c.block-edition.result.0.now c.block-later.result.0.now one.0 two.0
    c.block-edition.result.1 c.block-later.result.1 one.1 one.2 two.1 two.2
    ((bytes_eq-Decides c.block-edition.result.0.now c.block-later.result.0.now).0 (sym c.eq.ensures ∙ c.if-eq.true))
    (eqb-true c.block-edition.result.1 c.block-later.result.1 e)

-- the editions differ
pub returns-then-eq-clause-differ : goal.returns-then-eq-clause-differ
returns-then-eq-clause-differ c = λ e same.
    let one = c.block-edition.ensures.value in
    let two = c.block-later.ensures.value in
    let tells = place_tells c.args.one.now c.args.other.now c.args.at c.block-edition.result.0.now c.block-later.result.0.now one.0 two.0
    c.block-edition.result.1 c.block-later.result.1 one.1 one.2 two.1 two.2 same in
    true≢false (sym (eq-eqb c.block-edition.result.1 c.block-later.result.1 tells.1) ∙ e)

-- or the labels
pub returns-else-eq-clause-differ : goal.returns-else-eq-clause-differ
returns-else-eq-clause-differ c = λ e same.
    let one = c.block-edition.ensures.value in
    let two = c.block-later.ensures.value in
    let tells = place_tells c.args.one.now c.args.other.now c.args.at c.block-edition.result.0.now c.block-later.result.0.now one.0 two.0
    c.block-edition.result.1 c.block-later.result.1 one.1 one.2 two.1 two.2 same in
    true≢false (sym ((bytes_eq-Decides c.block-edition.result.0.now c.block-later.result.0.now).1 tells.0) ∙ sym c.eq.ensures ∙ e)
