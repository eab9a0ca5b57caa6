use Rattle.std.proofs.Common.{sym, subst}
use Rattle.std.specs.Prelude.{IsErrOf, IfErr, IsOk, Result}
use Rattle.share_api.specs.declared.leaf.LeafView.{LeafView}
use Rattle.stored_home.specs.declared.fault.StoreFault.{StoreFault}
use Rattle.stored_home.specs.declared.fault.StoreFault.TheVariants as faults
use Rattle.turn_secrets.specs.Listing.{Looks}
use Rattle.turn_edits.specs.Endings.{MadeFailed}
use Rattle.turn_pins.specs.Looking.{TellsView}
use Rattle.turn_pins.specs.Setting.{IsRenewFault}
use Rattle.turn_pins.proofs.LookedLeaf.{view_looks, view_named, view_quiet}
use Rattle.turn_pins.proofs.looking.look.Goals as goal

-- what the leaf shows
pub returns-clause-looks : goal.returns-clause-looks
returns-clause-looks g c =
    subst (λ (r : Result LeafView StoreFault). Looks (g.S.Share.seen c.args.share.now)
    (g.S.Share.seen c.leaf.new.self) (IsErrOf r faults.Failed) 1 (TellsView c.args.account.now c.args.tree r))
    (sym c.view_told.ensures)
    (view_looks (g.S.Share.seen c.args.share.now) (g.S.Share.seen c.leaf.new.self) c.args.account.now c.args.tree
    c.leaf.result c.leaf.ensures.made c.leaf.ensures.only)

-- the one record that it finds damaged is the leaf's
pub returns-clause-named : goal.returns-clause-named
returns-clause-named g c =
    subst (λ (r : Result LeafView StoreFault). IfErr r (IsRenewFault c.args.account.now c.args.tree))
    (sym c.view_told.ensures)
    (view_named c.args.account.now c.args.tree c.leaf.result (g.S.Share.seen c.args.share.now).lost c.leaf.ensures.only
    c.leaf.ensures.lost c.requires.whole)

-- a look that shows something didn't fail
pub returns-clause-quiet : goal.returns-clause-quiet
returns-clause-quiet g c =
    subst (λ (r : Result LeafView StoreFault). IsOk r → MadeFailed (g.S.Share.seen c.args.share.now)
    (g.S.Share.seen c.leaf.new.self) → ⊥) (sym c.view_told.ensures)
    (view_quiet (g.S.Share.seen c.args.share.now) (g.S.Share.seen c.leaf.new.self) c.args.account.now c.args.tree
    c.leaf.result c.leaf.ensures.made)
