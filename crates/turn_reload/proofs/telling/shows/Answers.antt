use Rattle.std.proofs.Common.{Err}
use Rattle.std.proofs.lemmas.Result.{err_from_is_err_and}
use Rattle.stored_home.specs.declared.fault.StoreFault.TheVariants.{NoMemory}
use Rattle.home_recovery.proofs.CallLemmas.{starved_no_failed}
use Rattle.home_recovery.proofs.ReadLemmas.{reads_none, reads_stocked}
use Rattle.turn_reload.specs.Evidence.{TellsShown}
use Rattle.turn_reload.proofs.telling.shows.Goals as goal

-- no call could be stocked
pub returns-in_err-stock-clause-read : goal.returns-in_err-stock-clause-read
returns-in_err-stock-clause-read g c =
    let p = err_from_is_err_and c.from_residual.result c.from_residual.ensures.1 in
    let ready = g.S.Share.seen c.stock.new.self in
    let P = TellsShown c.args.tree c.args.view.now (Err NoMemory) in
    rw (p.1, p.2) (reads_stocked (g.S.Share.seen c.args.share.now) ready ready _ _ 1 P c.stock.ensures.same c.stock.ensures.more
    (reads_none ready _ _ 1 P (λ f. starved_no_failed f) (λ contents. tt)))
