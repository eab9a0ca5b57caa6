use Rattle.std.proofs.Common.{IsOk, sym, subst}
use Rattle.std.specs.Prelude.{IsErrOf}
use Rattle.stored_home.specs.declared.fault.StoreFault.TheVariants as faults
use Rattle.home_recovery.specs.Parts.{TellsLeaf}
use Rattle.home_recovery.specs.Reading.{Reads}
use Rattle.home_recovery.proofs.CallLemmas.{leaf_read}
use Rattle.home_recovery.proofs.read.has_leaf.Goals as goal

pub returns-clause-read : goal.returns-clause-read
returns-clause-read g c =
    subst (λ r. Reads (g.S.Share.seen c.args.share.now) (g.S.Share.seen c.leaf.new.self) (IsOk r) (IsErrOf r faults.Failed) 1 (TellsLeaf c.args.label r))
    (sym c.there_of.ensures)
    (leaf_read (g.S.Share.seen c.args.share.now) (g.S.Share.seen c.leaf.new.self) c.args.label c.leaf.result c.leaf.ensures.made c.leaf.ensures.only c.leaf.ensures.lost c.requires.whole)
