use Rattle.std.proofs.Common.{List, Bool, length, ap, sym, ◌∙◌, subst, arith}
use Rattle.std.specs.Prelude.{IsErrOf}
use Rattle.std.specs.FinMap.{len, entries, len-entries}
use Rattle.factor_files.specs.declared.factor.FactorRecord.{FactorRecord}
use Rattle.share_api.specs.Contents.{Bytes}
use Rattle.stored_home.specs.declared.fault.StoreFault.TheVariants as faults
use Rattle.user_state.specs.Fits.{is_lost}
use Rattle.turn_secrets.specs.Listing.{Looks, TellsLines}
use Rattle.turn_secrets.proofs.Looking.{looks_as}
use Rattle.turn_secrets.proofs.factors.listed.Goals as goal

pub lines_of-requires-clause-lost : goal.lines_of-requires-clause-lost
lines_of-requires-clause-lost g c = c.is_some-lost.ensures ∙ sym c.requires.lost

pub lines_of-requires-clause-spare : goal.lines_of-requires-clause-spare
lines_of-requires-clause-spare g c =
    let all = ap length c.rows-rows.ensures in
    let size = len-entries c.args.state.now.stored.factors in
    let enough = c.requires.spare in
    omega (arith, all, size, enough)

-- the rows are those of the loaded factors
pub returns-clause-looks : goal.returns-clause-looks
returns-clause-looks g c =
    let rows = entries c.args.state.now.stored.factors in
    let size = len-entries c.args.state.now.stored.factors in
    looks_as (g.S.Share.seen c.args.share.now) (g.S.Share.seen c.lines_of.new.share)
    (IsErrOf c.lines_of.result faults.Failed) (IsErrOf c.lines_of.result faults.Failed) (length rows)
    (len c.args.state.now.stored.factors)
    (TellsLines c.args.state.now.account (is_lost c.args.state.now) rows c.lines_of.result)
    (TellsLines c.args.state.now.account (is_lost c.args.state.now) rows c.lines_of.result)
    (subst (λ (t : Bytes × (Bool × List (Bytes × FactorRecord))). Looks (g.S.Share.seen c.args.share.now)
    (g.S.Share.seen c.lines_of.new.share) (IsErrOf c.lines_of.result faults.Failed) (length t.1.1)
    (TellsLines t.0 t.1.0 t.1.1 c.lines_of.result))
    (λ i. (c.as_str.ensures.value i, (c.is_some-lost.ensures i, c.rows-rows.ensures i))) c.lines_of.ensures.looks)
    (omega (arith, size)) (λ f. f) (λ contents told. told)
