use Rattle.std.proofs.Common.{◌≡◌, Ok, IsOk, sym, arith}
use Rattle.std.specs.Prelude.{IsErrOf}
use Rattle.stored_home.specs.declared.fault.StoreFault.TheVariants.{Failed}
use Rattle.home_recovery.specs.Home.{TellsFactors}
use Rattle.home_recovery.specs.Parts.{TellsRows}
use Rattle.home_recovery.proofs.CallLemmas.{no_err}
use Rattle.home_recovery.proofs.ReadLemmas.{reads_as, reads_none}
use Rattle.home_recovery.proofs.HomeLemmas.{factors_some, factors_none, none_fitting}
use Rattle.home_recovery.proofs.loading.read_factors.Goals as goal

pub returns-in-Some-clause-read : goal.returns-in-Some-clause-read
returns-in-Some-clause-read g c =
    reads_as (g.S.Share.seen c.args.share.now) (g.S.Share.seen c.read_rows.new.share) (IsOk c.read_rows.result) (IsErrOf c.read_rows.result Failed)
    (IsOk c.read_rows.result) (IsErrOf c.read_rows.result Failed) 64 64
    (TellsRows c.args.account.now c.args.lost c.in-Some.stash c.read_rows.result)
    (TellsFactors c.args.account.now c.args.lost c.args.stash.now c.read_rows.result)
    c.read_rows.ensures.read (omega arith) (λ o. o) (λ f. f)
    (λ contents h. factors_some c.args.account.now c.args.lost c.args.stash.now c.in-Some.stash c.read_rows.result contents c.in-Some.is h)

pub returns-in-None-clause-read : goal.returns-in-None-clause-read
returns-in-None-clause-read g c =
    reads_none (g.S.Share.seen c.args.share.now) (Rattle.std.proofs.Common.true ≡ Rattle.std.proofs.Common.true) _ 64
    (TellsFactors c.args.account.now c.args.lost c.args.stash.now (Ok c.new.result))
    (λ f. no_err c.new.result Failed f)
    (λ contents. factors_none c.args.account.now c.args.lost c.args.stash.now c.new.result contents c.in-None.is c.new.ensures)

-- without a stash there are no records
pub returns-in-None-clause-fits : goal.returns-in-None-clause-fits
returns-in-None-clause-fits g c = none_fitting c.args.stash.now c.new.result c.in-None.is c.new.ensures
