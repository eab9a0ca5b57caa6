use Rattle.turn_reload.proofs.EditionLemmas.{tally_editions}
use Rattle.turn_reload.proofs.editions.is_same_stash.Goals as goal

-- the editions differ
pub returns-then-next-clause-differ : goal.returns-then-next-clause-differ
returns-then-next-clause-differ c = λ e same. c.are_same_blocks.ensures.differ e (tally_editions c.args.one.now c.args.other.now same)
