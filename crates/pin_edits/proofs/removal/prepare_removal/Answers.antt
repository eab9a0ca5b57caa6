use Rattle.std.proofs.Common.{sym, subst}
use Rattle.stash_format.specs.Kept.{HasBoth}
use Rattle.home_edits.proofs.StashLemmas.{both_without}
use Rattle.pin_edits.proofs.removal.prepare_removal.Goals as goal

-- the payload is there, and so are other blocks
pub stash_write-requires-clause-both : goal.stash_write-requires-clause-both
stash_write-requires-clause-both c =
    subst HasBoth (sym c.in_ok-made.ensures.value)
    (both_without c.args.stash.now c.args.label.now c.requires.loses.there c.requires.loses.others)
