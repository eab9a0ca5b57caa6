use Rattle.std.proofs.Common.{ap}
use Rattle.stash_format.specs.declared.block.Block.{Block}
use Rattle.secret_stash.proofs.KeptLemmas.{kept_added}
use Rattle.secret_stash.proofs.stash.Stash.add_block.Goals as goal

-- the block may stand in the record
pub invariant_of-self-2 : goal.invariant_of-self-2
invariant_of-self-2 c =
    kept_added c.put_block.result c.self.inside.contents c.args.self.now _ c.in_ok-label.label c.args.label.now c.in_ok-block.block c.args.edition
    c.self.view_is c.in_ok-label.ensures.value (ap (λ (b : Block). b.edition) c.in_ok-block.ensures.value)
    c.put_block.ensures.ok c.put_block.ensures.err c.self.invariant c.requires.label c.requires.below c.requires.room
