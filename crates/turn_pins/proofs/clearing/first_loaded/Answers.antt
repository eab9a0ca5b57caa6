use Rattle.std.proofs.Common.{List, length, ap, subst, arith}
use Rattle.std.specs.Prelude.{IsErrOf, Contains}
use Rattle.std.specs.FinMap.{len, entries, len-entries}
use Rattle.factor_files.specs.declared.factor.FactorRecord.{FactorRecord}
use Rattle.share_api.specs.Contents.{Bytes}
use Rattle.stored_home.specs.declared.fault.StoreFault.TheVariants as faults
use Rattle.turn_secrets.specs.Listing.{Looks}
use Rattle.turn_secrets.proofs.Looking.{looks_as}
use Rattle.turn_pins.specs.Clearing.{TellsFirst}
use Rattle.turn_pins.proofs.PinsCleared.{row_there}
use Rattle.turn_pins.proofs.clearing.first_loaded.Goals as goal

pub first_counted-requires-clause-spare : goal.first_counted-requires-clause-spare
first_counted-requires-clause-spare g c =
    let all = ap length c.rows.ensures in
    let size = len-entries c.args.state.now.stored.factors in
    let enough = c.requires.spare in
    omega (arith, all, size, enough)

-- the rows are those of the loaded factors
pub returns-clause-looks : goal.returns-clause-looks
returns-clause-looks g c =
    let rows = entries c.args.state.now.stored.factors in
    let size = len-entries c.args.state.now.stored.factors in
    looks_as (g.S.Share.seen c.args.share.now) (g.S.Share.seen c.first_counted.new.share)
    (IsErrOf c.first_counted.result faults.Failed) (IsErrOf c.first_counted.result faults.Failed) (length rows)
    (len c.args.state.now.stored.factors) (TellsFirst rows c.first_counted.result)
    (TellsFirst rows c.first_counted.result)
    (subst (λ (t : List (Bytes × FactorRecord)). Looks (g.S.Share.seen c.args.share.now)
    (g.S.Share.seen c.first_counted.new.share) (IsErrOf c.first_counted.result faults.Failed) (length t)
    (TellsFirst t c.first_counted.result)) c.rows.ensures c.first_counted.ensures.looks)
    (omega (arith, size)) (λ f. f) (λ contents told. told)

pub returns-clause-pin : goal.returns-clause-pin
returns-clause-pin g c = λ label is.
    let found = c.first_counted.ensures.pin label is in (
      found.0,
      row_there c.args.state.now.stored.factors label found.0
          (subst (λ (t : List (Bytes × FactorRecord)). Contains t (label, found.0)) c.rows.ensures found.1),
      found.2,
    )
