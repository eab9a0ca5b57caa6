use Rattle.std.proofs.Common.{◌≡◌, Result, Ok, Err, sym, subst, is_some, arith}
use Rattle.std.specs.Prelude.{IfOk}
use Rattle.std.proofs.lemmas.Result.{err_from_is_err_and}
use Rattle.stored_home.specs.Coherent.{KeepsBounds, IsCoherent}
use Rattle.stored_home.specs.Loaded.{Filed, HasFactors}
use Rattle.stored_home.specs.declared.fault.StoreFault.{StoreFault}
use Rattle.stored_home.specs.declared.stored.Stored.{Stored}
use Rattle.stored_home.specs.declared.fault.StoreFault.TheVariants.{NoMemory}
use Rattle.home_recovery.specs.Home.{TellsHome, TellsListed}
use Rattle.home_recovery.specs.Parts.{AreFiles}
use Rattle.home_recovery.proofs.CallLemmas.{reads_err, starved_no_failed}
use Rattle.home_recovery.proofs.ReadLemmas.{reads_none}
use Rattle.home_recovery.proofs.HomeLemmas.{home_fault, checked_reads, coherent_of}
use Rattle.home_recovery.proofs.loading.load_listed.Goals as goal

-- there is no memory for the files' names
pub returns-in_err-files-clause-read : goal.returns-in_err-files-clause-read
returns-in_err-files-clause-read g c =
    let p = err_from_is_err_and c.from_residual.result c.from_residual.ensures.1 in
    rw (p.1, p.2) (reads_none (g.S.Share.seen c.args.share.now) _ _ 66
    (TellsListed c.args.account.now c.args.listed.now (is_some (g.S.Share.seen c.args.share.now).lost) (Err NoMemory))
    (λ f. starved_no_failed f) (λ contents. tt))

-- the home has a fault
pub returns-in_err-stored-clause-read : goal.returns-in_err-stored-clause-read
returns-in_err-stored-clause-read g c =
    let p = err_from_is_err_and c.from_residual-in_err-stored.result c.from_residual-in_err-stored.ensures.1 in
    let account = c.args.account.now in
    let listed = c.args.listed.now in
    let lost = is_some (g.S.Share.seen c.args.share.now).lost in
    let fault = c.in_err-stored.field-0.0 in
    rw (p.1, p.2) (reads_err (g.S.Share.seen c.args.share.now) (g.S.Share.seen c.read_home.new.share) fault 66 66
    (TellsHome account lost (Err fault)) (TellsListed account listed lost (Err fault)) c.in_err-stored.ensures.read (omega arith)
    (λ contents h. home_fault account listed lost fault contents h))

pub returns-clause-read : goal.returns-clause-read
returns-clause-read g c =
    let account = c.args.account.now in
    let listed = c.args.listed.now in
    let lost = is_some (g.S.Share.seen c.args.share.now).lost in
    let stored = c.in_ok-stored.stored in
    checked_reads (g.S.Share.seen c.args.share.now) (g.S.Share.seen c.read_home.new.share) account listed lost stored
    (subst (λ (m : Filed). AreFiles account listed m) (sym c.in_ok-stored.ensures.files) c.in_ok-files.ensures.files)
    c.in_ok-stored.ensures.own c.in_ok-stored.ensures.read c.checked.result c.checked.ensures.kept c.checked.ensures.broken

-- what is told to be kept fits together
pub returns-clause-coherent : goal.returns-clause-coherent
returns-clause-coherent g c = coherent_by c.checked.result c.checked.ensures.kept
  where
    coherent_by : (r : Result Stored StoreFault)
        → IfOk r (λ kept. (kept ≡ c.in_ok-stored.stored) × (HasFactors c.in_ok-stored.stored → KeepsBounds c.in_ok-stored.stored))
        → IfOk r (IsCoherent c.args.account.now)
    coherent_by (Ok kept) is = coherent_of c.args.account.now c.args.listed.now c.in_ok-stored.stored kept
        (subst (λ (m : Filed). AreFiles c.args.account.now c.args.listed.now m) (sym c.in_ok-stored.ensures.files) c.in_ok-files.ensures.files)
        c.in_ok-stored.ensures.own c.in_ok-stored.ensures.both c.in_ok-stored.ensures.fits is
    coherent_by (Err fault) is = tt
