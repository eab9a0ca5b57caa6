use Rattle.std.proofs.Common.{sym, subst, take}
use Rattle.secret_stash.specs.Keys.{new_block}
use Rattle.stash_format.specs.Kept.{HasBoth}
use Rattle.home_edits.proofs.StashLemmas.{both_sealed}
use Rattle.home_edits.proofs.reseal.resealed.Goals as goal

-- the payload is there, and so is the block
pub stash_put-requires-clause-both : goal.stash_put-requires-clause-both
stash_put-requires-clause-both c =
    subst HasBoth (sym c.in_ok-made.ensures.value)
    (both_sealed c.args.stash.now c.args.label.now
    (new_block c.args.stash.now.account c.args.label.now c.args.row.now.edition (take 32 c.args.key.now)
    c.args.main.now c.args.iv)
    c.requires.takes.there)
