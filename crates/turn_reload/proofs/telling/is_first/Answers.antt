use Rattle.std.proofs.Common.{◌≡◌, Ok, true, sym, subst}
use Rattle.stored_home.specs.declared.fault.StoreFault.TheVariants.{Failed}
use Rattle.home_recovery.proofs.CallLemmas.{no_err}
use Rattle.home_recovery.proofs.ReadLemmas.{reads_none}
use Rattle.turn_reload.specs.Evidence.{Tells}
use Rattle.turn_reload.proofs.EvidenceLemmas.{editions_tell}
use Rattle.turn_reload.proofs.telling.is_first.Goals as goal

-- editions are compared without a step
pub returns-in-Editions-clause-read : goal.returns-in-Editions-clause-read
returns-in-Editions-clause-read g c =
    reads_none (g.S.Share.seen c.args.share.now) (true ≡ true) _ 1
    (Tells c.args.doubt.now c.args.account.now c.args.before.now c.args.stored.now (Ok c.are_same.result))
    (λ f. no_err c.are_same.result Failed f)
    (λ contents. subst (λ d. Tells d c.args.account.now c.args.before.now c.args.stored.now (Ok c.are_same.result) contents) (sym c.in-Editions.is)
    (editions_tell c.args.before.now c.args.stored.now.stash c.are_same.result c.are_same.ensures.same c.are_same.ensures.differ))
