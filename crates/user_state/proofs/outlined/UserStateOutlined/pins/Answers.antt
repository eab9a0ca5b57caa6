use Rattle.std.proofs.Common.{List, ℕ, sym, ◌∙◌, ap}
use Rattle.std.specs.Prelude.{count_by}
use Rattle.account_machine.specs.Outline.{is_pin_kind}
use Rattle.factor_files.specs.declared.factor.FactorRecord.{FactorRecord}
use Rattle.user_state.specs.Outlines.{mark_in}
use Rattle.user_state.proofs.RowLemmas.{pins_marked}
use Rattle.user_state.proofs.outlined.UserStateOutlined.pins.Goals as goal

pub returns : goal.returns
returns c =
    c.pins_among.ensures ∙ ap (count_by (λ (row : List ℕ × FactorRecord). is_pin_kind row.1.kind)) c.rows.ensures
    ∙ sym (pins_marked mark_in c.args.self.now.stored.factors)
