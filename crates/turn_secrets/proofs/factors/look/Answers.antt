use Rattle.std.proofs.Common.{sym, subst}
use Rattle.std.specs.Prelude.{IfErr, IsErrOf}
use Rattle.stored_home.specs.declared.fault.StoreFault.TheVariants as faults
use Rattle.turn_secrets.specs.Listing.{Looks, TellsLook, IsListFault}
use Rattle.turn_secrets.proofs.Looking.{look_told, look_only}
use Rattle.turn_secrets.proofs.factors.look.Goals as goal

pub returns-clause-looks : goal.returns-clause-looks
returns-clause-looks g c =
    subst (λ r. Looks (g.S.Share.seen c.args.share.now) (g.S.Share.seen c.leaf.new.self) (IsErrOf r faults.Failed) 1
    (TellsLook c.args.account.now c.args.label r))
    (sym c.count_told.ensures)
    (look_told (g.S.Share.seen c.args.share.now) (g.S.Share.seen c.leaf.new.self) c.args.account.now c.args.label
    c.leaf.result c.leaf.ensures.made c.leaf.ensures.only)

pub returns-clause-only : goal.returns-clause-only
returns-clause-only g c =
    subst (λ r. IfErr r IsListFault) (sym c.count_told.ensures)
    (look_only c.args.account.now c.args.label c.leaf.result (g.S.Share.seen c.args.share.now).lost c.leaf.ensures.only
    c.leaf.ensures.lost c.requires.whole)
