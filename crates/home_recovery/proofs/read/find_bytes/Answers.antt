use Rattle.std.proofs.Common.{IsOk, sym, subst}
use Rattle.std.specs.Prelude.{IsErrOf}
use Rattle.stored_home.specs.declared.fault.StoreFault.TheVariants as faults
use Rattle.home_recovery.specs.Parts.{TellsBytes}
use Rattle.home_recovery.specs.Reading.{Reads}
use Rattle.home_recovery.proofs.CallLemmas.{bytes_read}
use Rattle.home_recovery.proofs.read.find_bytes.Goals as goal

pub returns-clause-read : goal.returns-clause-read
returns-clause-read g c =
    subst (λ r. Reads (g.S.Share.seen c.args.share.now) (g.S.Share.seen c.get.new.self) (IsOk r) (IsErrOf r faults.Failed) 1 (TellsBytes c.args.name.now r))
    (sym c.told.ensures)
    (bytes_read (g.S.Share.seen c.args.share.now) (g.S.Share.seen c.get.new.self) c.args.name.now c.get.result c.get.ensures.made c.get.ensures.only)
