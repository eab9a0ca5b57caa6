use Rattle.std.proofs.Common.{sym, subst}
use Rattle.stash_format.specs.Kept.{HasBoth}
use Rattle.home_edits.specs.Passwords.{password_block}
use Rattle.home_edits.proofs.StashLemmas.{both_with}
use Rattle.home_edits.proofs.passwords.prepare.Goals as goal

-- the payload is there, and so is a block
pub factor_puts-requires-clause-both : goal.factor_puts-requires-clause-both
factor_puts-requires-clause-both c =
    subst HasBoth (sym c.in_ok-made.ensures.value)
    (both_with c.args.stash.now c.args.stash.now.payload c.args.label.now
    (password_block c.args.stash.now c.args.label.now c.args.derived.now c.args.main.now c.args.iv)
    c.requires.takes.there)
