use Rattle.std.proofs.Common.{◌≤◌, ℕ, Some, refl, sym, ap, ◌∙◌, subst}
use Rattle.stash_format.specs.Kept.{HasBoth}
use Rattle.stash_format.specs.Sizes.{payload_size, most_payload}
use Rattle.stash_format.specs.declared.contents.Contents.{Contents as Stash}
use Rattle.home_edits.specs.FirstPasswords.{IsFirstStash}
use Rattle.home_edits.specs.Passwords.{password_row, password_block, AreFactorPuts}
use Rattle.home_edits.specs.declared.factor_puts.FactorPuts.{FactorPuts}
use Rattle.home_edits.proofs.Edited.{if_ok_weaker}
use Rattle.home_edits.proofs.FirstEdits.{first_puts}
use Rattle.home_edits.proofs.StashLemmas.{both_with}
use Rattle.home_edits.proofs.first_password.prepare_first.Goals as goal

-- the payload is there, and so is the block
pub factor_puts-requires-clause-both : goal.factor_puts-requires-clause-both
factor_puts-requires-clause-both c =
    let first = c.in_ok-made.ensures.value in
    subst HasBoth (sym first.made_is)
    (both_with c.args.stash.now (Some first.payload) c.args.label.now
    (password_block c.args.stash.now c.args.label.now c.args.derived.now c.args.keys.now.main c.args.ivs.now.block)
    refl)

pub factor_puts-requires-clause-short : goal.factor_puts-requires-clause-short
factor_puts-requires-clause-short c =
    let first = c.in_ok-made.ensures.value in
    subst (λ (s : Stash). payload_size s ≤ most_payload) (sym first.made_is) first.short

pub returns-clause-first : goal.returns-clause-first
returns-clause-first c =
    if_ok_weaker (AreFactorPuts c.args.account.now c.args.rows.now c.in_ok-made.made c.in_ok-row.row)
    (λ (puts : FactorPuts). IsFirstStash c.args.stash.now c.args.label.now c.args.derived.now c.args.keys.now.main
    c.args.keys.now.vault
    c.args.ivs.now.block puts.stash) c.factor_puts.result
    (λ puts are. (first_puts c.args.account.now c.args.rows.now c.args.stash.now c.args.label.now c.args.derived.now
    c.args.keys.now.main c.args.keys.now.vault c.args.ivs.now.block c.in_ok-made.made c.in_ok-row.row puts
    c.in_ok-made.ensures.value
    (c.in_ok-row.ensures.value ∙ ap (λ (n : ℕ). password_row c.args.label.now n c.args.derived.now)
    c.next.ensures.value) are).0)
    c.factor_puts.ensures.value

pub returns-clause-value : goal.returns-clause-value
returns-clause-value c =
    if_ok_weaker (AreFactorPuts c.args.account.now c.args.rows.now c.in_ok-made.made c.in_ok-row.row)
    (λ (puts : FactorPuts). AreFactorPuts c.args.account.now c.args.rows.now puts.stash
    (password_row c.args.label.now c.args.stash.now.next c.args.derived.now) puts) c.factor_puts.result
    (λ puts are. (first_puts c.args.account.now c.args.rows.now c.args.stash.now c.args.label.now c.args.derived.now
    c.args.keys.now.main c.args.keys.now.vault c.args.ivs.now.block c.in_ok-made.made c.in_ok-row.row puts
    c.in_ok-made.ensures.value
    (c.in_ok-row.ensures.value ∙ ap (λ (n : ℕ). password_row c.args.label.now n c.args.derived.now)
    c.next.ensures.value) are).1)
    c.factor_puts.ensures.value
