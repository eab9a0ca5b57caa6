use Rattle.std.proofs.Common.{IsOk, sym, subst}
use Rattle.std.specs.Prelude.{IsErrOf}
use Rattle.stored_home.specs.declared.fault.StoreFault.TheVariants as faults
use Rattle.home_recovery.specs.Parts.{TellsView}
use Rattle.home_recovery.specs.Reading.{Reads}
use Rattle.home_recovery.proofs.CallLemmas.{view_read}
use Rattle.home_recovery.proofs.read.find_view.Goals as goal

pub returns-clause-read : goal.returns-clause-read
returns-clause-read g c =
    subst (λ r. Reads (g.S.Share.seen c.args.share.now) (g.S.Share.seen c.leaf.new.self) (IsOk r) (IsErrOf r faults.Failed) 1 (TellsView c.args.label r))
    (sym c.told.ensures)
    (view_read (g.S.Share.seen c.args.share.now) (g.S.Share.seen c.leaf.new.self) c.args.label c.leaf.result c.leaf.ensures.made c.leaf.ensures.only c.leaf.ensures.lost c.requires.whole)
