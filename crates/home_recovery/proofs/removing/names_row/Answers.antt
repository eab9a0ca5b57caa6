use Rattle.std.proofs.Common.{sym, ap, ◌∙◌, subst, true≢false}
use Rattle.std.specs.Prelude.{IsTrue}
use Rattle.std.proofs.lemmas.Slice.Eq.{bytes_eq-Decides}
use Rattle.home_names.specs.Names.{is_factor_label}
use Rattle.record_names.specs.Names.{factor_name}
use Rattle.share_api.specs.Contents.{Bytes}
use Rattle.home_recovery.proofs.SweepLemmas.{row_stands, row_there, row_labelled, none_more, none_at_all}
use Rattle.home_recovery.proofs.removing.names_row.Goals as goal

pub factor-requires-clause-label : goal.factor-requires-clause-label
factor-requires-clause-label c =
    subst (λ (l : Bytes). IsTrue (is_factor_label l)) (sym c.as_str.ensures.value)
    (row_labelled c.args.account.now c.args.stored.now c.rows-row-items.result.now c.rows-row-items.ensures c.loop-row.row-index c.row-item.result
    c.loop-row-test.true c.row-item.is c.requires.coherent)

-- this row has the name
pub returns-then-eq-clause-named : goal.returns-then-eq-clause-named
returns-then-eq-clause-named c = λ _.
    let item = c.row-item.result in (
      item.0,
      item.1,
      row_there c.args.account.now c.args.stored.now c.rows-row-items.result.now c.rows-row-items.ensures c.loop-row.row-index item
          c.loop-row-test.true c.row-item.is,
      sym ((bytes_eq-Decides c.factor.result c.args.name.now).0 (sym c.eq.ensures ∙ c.if-eq.true)) ∙ c.factor.ensures.value
          ∙ ap (λ (l : Bytes). factor_name c.args.account.now l item.1.edition) c.as_str.ensures.value,
    )

pub loop-row-preserved : goal.loop-row-preserved
loop-row-preserved c =
    let item = c.row-item.result in
    none_more c.args.account.now c.args.name.now c.rows-row-items.result.now c.loop-row.row-index item
    (row_stands c.args.account.now c.args.stored.now c.rows-row-items.result.now c.rows-row-items.ensures c.loop-row.row-index item
    c.loop-row-test.true c.row-item.is)
    c.loop-row.invariant
    (λ same. true≢false (sym ((bytes_eq-Decides c.factor.result c.args.name.now).1 (c.factor.ensures.value
    ∙ ap (λ (l : Bytes). factor_name c.args.account.now l item.1.edition) c.as_str.ensures.value ∙ same)) ∙ sym c.eq.ensures ∙ c.if-eq.false))

-- no row has it
pub returns-clause-none : goal.returns-clause-none
returns-clause-none c = λ _.
    none_at_all c.args.account.now c.args.name.now c.args.stored.now c.rows-row-items.result.now c.loop-row.row-index c.rows-row-items.ensures
    c.loop-row-test.false c.loop-row.invariant
