use Rattle.std.proofs.Common.{◌≡◌, [], ◌∷◌, false, sym, ◌∙◌, subst, is_some, IsOk}
use Rattle.std.specs.Prelude.{IsErrOf}
use Rattle.record_names.specs.Names.{account_of}
use Rattle.record_names.proofs.NameLemmas.{account_of-record}
use Rattle.share_api.specs.declared.step.Write.TheVariants.{RemoveLeaf}
use Rattle.stored_home.specs.declared.fault.StoreFault.TheVariants as faults
use Rattle.home_recovery.specs.Sweeps.{Sweeps}
use Rattle.home_recovery.proofs.HomeLemmas.{loss_is}
use Rattle.home_recovery.proofs.SweepLemmas.{sweeps_stay, sweeps_one, leaf_lost, leaf_stays, leaf_removed, named_by, not_named_by, no_roots, only_failed}
use Rattle.home_recovery.proofs.removing.remove_leaf.Goals as goal
use Rattle.home_recovery.proofs.removing.remove_leaf.Goals.{then-is_some-via-then-is_some, then-is_some-via-else-is_some+then-names_leaf}

-- the tree is lost, or the leaf is named
pub returns-then-is_some-clause-sweeps : goal.returns-then-is_some-clause-sweeps
returns-then-is_some-clause-sweeps g c =
    let seen = g.S.Share.seen c.args.share.now in
    let lost = is_some seen.lost in
    let account = c.args.account.now in
    let stored = c.args.stored.now in
    let name = c.args.name.now in
    let own = account_of-record name c.requires.is in
    elim c.then-is_some.branch [
      | then-is_some-via-then-is_some w ↦
          sweeps_stay lost account stored name seen (leaf_lost lost account stored c.requires.plain name (account_of name) c.args.label own c.requires.named
          (sym (loss_is seen.lost stored.lost c.requires.lost) ∙ sym c.is_some.ensures ∙ w.if-is_some.true))
      | then-is_some-via-else-is_some+then-names_leaf w ↦
          sweeps_stay lost account stored name seen (leaf_stays lost account stored c.requires.plain name (account_of name) c.args.label own c.requires.named
          (named_by stored c.args.label (sym w.names_leaf.ensures ∙ w.if-names_leaf.true)))
    ]

-- the leaf is removed
pub returns-clause-sweeps : goal.returns-clause-sweeps
returns-clause-sweeps g c =
    let seen = g.S.Share.seen c.args.share.now in
    let lost = is_some seen.lost in
    let account = c.args.account.now in
    let stored = c.args.stored.now in
    let name = c.args.name.now in
    let whole : lost ≡ false = sym (loss_is seen.lost stored.lost c.requires.lost) ∙ sym c.is_some.ensures ∙ c.if-is_some.false in
    subst (λ r. Sweeps lost account stored (name ∷ []) seen (g.S.Share.seen c.remove_leaf.new.self) (IsOk r) (IsErrOf r faults.Failed))
    (sym c.told.ensures)
    (sweeps_one lost account stored name seen (g.S.Share.seen c.remove_leaf.new.self) c.args.moment (RemoveLeaf c.args.label) c.remove_leaf.result
    c.remove_leaf.ensures.made
    (only_failed seen.lost c.remove_leaf.result (no_roots seen.lost whole) c.remove_leaf.ensures.lost c.remove_leaf.ensures.only)
    (whole, not_named_by stored c.args.label (sym c.names_leaf.ensures ∙ c.if-names_leaf.false))
    (leaf_removed lost account stored c.requires.plain name (account_of name) c.args.label (account_of-record name c.requires.is) c.requires.named))
