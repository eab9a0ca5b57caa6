use Rattle.std.proofs.Common.{List, sym, ap, ◌∙◌, subst}
use Rattle.std.proofs.lemmas.Result.{err_from_is_err_and}
use Rattle.share_api.specs.Conditions.{IsOf}
use Rattle.share_api.specs.Contents.{Bytes}
use Rattle.share_api.specs.Replies.{AreListed}
use Rattle.share_api.specs.Seen.{ShareSeen}
use Rattle.home_recovery.proofs.LoadLemmas.{loads_starved, loads_unlisted, loads_listed}
use Rattle.home_recovery.proofs.loading.load.Goals as goal

-- no call could be stocked
pub returns-in_err-stock-clause-loads : goal.returns-in_err-stock-clause-loads
returns-in_err-stock-clause-loads g c =
    let p = err_from_is_err_and c.from_residual.result c.from_residual.ensures.1 in
    rw (p.1, p.2) (loads_starved (g.S.Share.seen c.args.share.now) (g.S.Share.seen c.stock.new.self) c.args.account.now c.stock.ensures.same c.stock.ensures.more)

pub load_listed-requires-clause-serves : goal.load_listed-requires-clause-serves
load_listed-requires-clause-serves g c =
    let made = c.in_ok-listed.ensures.made.2 in
    record {
      plain = c.requires.plain;
      own = subst (λ o. IsOf o c.args.account.now) (sym (made.owner ∙ ap (λ (s : ShareSeen). s.owner) c.stock.ensures.same)) c.requires.own;
    }

-- the names couldn't be listed
pub returns-in_err-listed-clause-loads : goal.returns-in_err-listed-clause-loads
returns-in_err-listed-clause-loads g c =
    let p = err_from_is_err_and c.from_residual-in_err-listed.result c.from_residual-in_err-listed.ensures.1 in
    let made = c.in_err-listed.ensures.made in
    rw (p.1, p.2) (loads_unlisted (g.S.Share.seen c.args.share.now) (g.S.Share.seen c.stock.new.self) (g.S.Share.seen c.list_names.new.share)
    c.args.account.now made.0 c.stock.ensures.same made.2 c.in_err-listed.field-0.0 c.stock.ensures.more made.1)

pub returns-clause-loads : goal.returns-clause-loads
returns-clause-loads g c =
    let made = c.in_ok-listed.ensures.made in
    let names = made.1 in
    loads_listed (g.S.Share.seen c.args.share.now) (g.S.Share.seen c.stock.new.self) (g.S.Share.seen c.list_names.new.share)
    c.args.account.now made.0 c.stock.ensures.same made.2 (g.S.Share.seen c.load_listed.new.share) names.0 names.1 c.deref.result.now
    c.load_listed.result c.requires.plain (subst (λ (xs : List Bytes). AreListed names.0 names.1 xs) (sym c.deref.ensures.value) names.2) names.3 c.load_listed.ensures.read c.load_listed.ensures.lost c.stock.ensures.more
