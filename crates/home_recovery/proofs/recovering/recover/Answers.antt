use Rattle.std.proofs.Common.{◌≡◌, List, Err, sym, ap, ◌∙◌, subst, is_some}
use Rattle.std.proofs.lemmas.Result.{err_from_is_err_and}
use Rattle.share_api.specs.Conditions.{IsOf}
use Rattle.share_api.specs.Contents.{Bytes}
use Rattle.share_api.specs.Replies.{AreListed}
use Rattle.share_api.specs.Seen.{ShareSeen}
use Rattle.home_recovery.specs.Sweeps.{Finishes}
use Rattle.home_recovery.proofs.LoadLemmas.{loads_starved, loads_unlisted, loads_listed}
use Rattle.home_recovery.proofs.RecoverLemmas.{recovers_fault, recovers_listed}
use Rattle.home_recovery.proofs.recovering.recover.Goals as goal

-- no call could be stocked
pub returns-in_err-stock-clause-recovers : goal.returns-in_err-stock-clause-recovers
returns-in_err-stock-clause-recovers g c =
    let p = err_from_is_err_and c.from_residual.result c.from_residual.ensures.1 in
    rw (p.1, p.2) (recovers_fault (g.S.Share.seen c.args.share.now) (g.S.Share.seen c.stock.new.self) c.args.account.now _
    (loads_starved (g.S.Share.seen c.args.share.now) (g.S.Share.seen c.stock.new.self) c.args.account.now c.stock.ensures.same c.stock.ensures.more))

pub load_listed-requires-clause-serves : goal.load_listed-requires-clause-serves
load_listed-requires-clause-serves g c =
    let made = c.in_ok-listed.ensures.made.2 in
    record {
      plain = c.requires.plain;
      own = subst (λ o. IsOf o c.args.account.now) (sym (made.owner ∙ ap (λ (s : ShareSeen). s.owner) c.stock.ensures.same)) c.requires.own;
    }

-- the names couldn't be listed
pub returns-in_err-listed-clause-recovers : goal.returns-in_err-listed-clause-recovers
returns-in_err-listed-clause-recovers g c =
    let p = err_from_is_err_and c.from_residual-in_err-listed.result c.from_residual-in_err-listed.ensures.1 in
    let made = c.in_err-listed.ensures.made in
    rw (p.1, p.2) (recovers_fault (g.S.Share.seen c.args.share.now) (g.S.Share.seen c.list_names.new.share) c.args.account.now c.in_err-listed.field-0.0
    (loads_unlisted (g.S.Share.seen c.args.share.now) (g.S.Share.seen c.stock.new.self) (g.S.Share.seen c.list_names.new.share)
    c.args.account.now made.0 c.stock.ensures.same made.2 c.in_err-listed.field-0.0 c.stock.ensures.more made.1))

-- what was read has a fault
pub returns-in_err-loaded-clause-recovers : goal.returns-in_err-loaded-clause-recovers
returns-in_err-loaded-clause-recovers g c =
    let p = err_from_is_err_and c.from_residual-in_err-loaded.result c.from_residual-in_err-loaded.ensures.1 in
    let made = c.in_ok-listed.ensures.made in
    let names = made.1 in
    let fault = c.in_err-loaded.field-0.0 in
    rw (p.1, p.2) (recovers_fault (g.S.Share.seen c.args.share.now) (g.S.Share.seen c.load_listed.new.share) c.args.account.now fault
    (loads_listed (g.S.Share.seen c.args.share.now) (g.S.Share.seen c.stock.new.self) (g.S.Share.seen c.list_names.new.share)
    c.args.account.now made.0 c.stock.ensures.same made.2 (g.S.Share.seen c.load_listed.new.share) names.0 names.1 c.deref.result.now
    (Err fault) c.requires.plain (subst (λ (xs : List Bytes). AreListed names.0 names.1 xs) (sym c.deref.ensures.value) names.2) names.3
    c.in_err-loaded.ensures.read tt c.stock.ensures.more))

-- the account is recovered, or a removal failed
pub returns-clause-recovers : goal.returns-clause-recovers
returns-clause-recovers g c =
    let made = c.in_ok-listed.ensures.made in
    let names = made.1 in
    let listed = c.deref.result.now in
    let mid = g.S.Share.seen c.load_listed.new.share in
    let new = g.S.Share.seen c.finish.new.share in
    let same : c.deref-2.result.now ≡ listed = c.deref-2.ensures.value ∙ sym c.deref.ensures.value in
    recovers_listed (g.S.Share.seen c.args.share.now) (g.S.Share.seen c.stock.new.self) (g.S.Share.seen c.list_names.new.share) mid new
    c.args.account.now made.0 c.stock.ensures.same c.stock.ensures.more made.2 names.0 names.1 listed c.in_ok-loaded.loaded c.requires.plain
    (subst (λ (xs : List Bytes). AreListed names.0 names.1 xs) (sym c.deref.ensures.value) names.2) names.3 c.in_ok-loaded.ensures.read
    c.in_ok-loaded.ensures.lost c.in_ok-loaded.ensures.coherent c.finish.result c.finish.ensures.only
    (subst (λ (xs : List Bytes). Finishes (is_some mid.lost) c.args.account.now c.in_ok-loaded.loaded xs mid new c.finish.result) same c.finish.ensures.finishes)
