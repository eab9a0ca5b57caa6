use Rattle.std.proofs.Common.{Some, refl, sym, subst}
use Rattle.stash_format.specs.Kept.{HasBoth}
use Rattle.home_edits.proofs.StashLemmas.{both_with}
use Rattle.pin_edits.specs.Pins.{pin_block}
use Rattle.pin_edits.proofs.setting.prepare.Goals as goal

-- the payload is there, and so is the block
pub stash_write-requires-clause-both : goal.stash_write-requires-clause-both
stash_write-requires-clause-both c =
    let made = c.in_ok-made.ensures.value in
    subst HasBoth (sym made.made_is)
    (both_with c.args.stash.now (Some made.payload) c.args.label.now
    (pin_block c.args.stash.now c.args.label.now c.args.pin.now c.args.main.now c.args.ivs.now.block) refl)
