use Rattle.std.proofs.Common.{refl, is_some}
use Rattle.std.proofs.lemmas.Result.{err_from_is_err_and}
use Rattle.home_recovery.proofs.SweepLemmas.{finishes_starved, finishes_failed, finishes_done}
use Rattle.home_recovery.proofs.TidyLemmas.{coherent_trimmed}
use Rattle.home_recovery.proofs.recovering.finish.Goals as goal

-- no call could be stocked
pub returns-in_err-stock-clause-finishes : goal.returns-in_err-stock-clause-finishes
returns-in_err-stock-clause-finishes g c =
    let p = err_from_is_err_and c.from_residual.result c.from_residual.ensures.1 in
    let seen = g.S.Share.seen c.args.share.now in
    rw (p.1, p.2) (finishes_starved (is_some seen.lost) c.args.account.now c.args.loaded c.trimmed-stored.result c.args.listed.now
    seen (g.S.Share.seen c.stock.new.self) (g.S.Share.seen c.stock.new.self) c.trimmed-stored.ensures c.stock.ensures.same c.stock.ensures.more refl)

pub remove_unnamed-requires-clause-coherent : goal.remove_unnamed-requires-clause-coherent
remove_unnamed-requires-clause-coherent g c =
    coherent_trimmed c.args.loaded c.trimmed-stored.result c.trimmed-stored.ensures c.args.account.now c.requires.coherent

-- a removal failed
pub returns-in_err-remove_unnamed-clause-finishes : goal.returns-in_err-remove_unnamed-clause-finishes
returns-in_err-remove_unnamed-clause-finishes g c =
    let p = err_from_is_err_and c.from_residual-in_err-remove_unnamed.result c.from_residual-in_err-remove_unnamed.ensures.1 in
    let seen = g.S.Share.seen c.args.share.now in
    rw (p.1, p.2) (finishes_failed (is_some seen.lost) c.args.account.now c.args.loaded c.trimmed-stored.result c.args.listed.now
    seen (g.S.Share.seen c.stock.new.self) (g.S.Share.seen c.remove_unnamed.new.share) c.trimmed-stored.ensures c.stock.ensures.same c.stock.ensures.more refl
    c.in_err-remove_unnamed.field-0.0 c.in_err-remove_unnamed.ensures.sweeps)

pub returns-in_err-remove_unnamed-clause-goes : goal.returns-in_err-remove_unnamed-clause-goes
returns-in_err-remove_unnamed-clause-goes g c =
    g.met.S.Share.goes_on c.args.share.now c.stock.new.self c.remove_unnamed.new.share c.stock.ensures.goes c.remove_unnamed.ensures.goes

-- nothing else is there
pub returns-clause-finishes : goal.returns-clause-finishes
returns-clause-finishes g c =
    let seen = g.S.Share.seen c.args.share.now in
    finishes_done (is_some seen.lost) c.args.account.now c.args.loaded c.trimmed-stored.result c.args.listed.now
    seen (g.S.Share.seen c.stock.new.self) (g.S.Share.seen c.remove_unnamed.new.share) c.trimmed-stored.ensures c.stock.ensures.same c.stock.ensures.more refl
    c.in_ok-remove_unnamed.ensures.sweeps
