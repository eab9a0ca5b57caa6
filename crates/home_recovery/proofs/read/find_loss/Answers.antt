use Rattle.std.proofs.Common.{IsOk, sym, subst}
use Rattle.std.specs.Prelude.{IsErrOf}
use Rattle.stored_home.specs.declared.fault.StoreFault.TheVariants as faults
use Rattle.home_recovery.specs.Reading.{Reads}
use Rattle.home_recovery.proofs.CallLemmas.{loss_read}
use Rattle.home_recovery.proofs.read.find_loss.Goals as goal

pub returns-clause-read : goal.returns-clause-read
returns-clause-read g c =
    subst (λ r. Reads (g.S.Share.seen c.args.share.now) (g.S.Share.seen c.leaf.new.self) (IsOk r) (IsErrOf r faults.Failed) 1 (λ x. Unit {0}))
    (sym c.loss_of.ensures)
    (loss_read (g.S.Share.seen c.args.share.now) (g.S.Share.seen c.leaf.new.self) _ c.leaf.result c.leaf.ensures.made c.leaf.ensures.only)
