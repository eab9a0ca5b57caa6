use Rattle.std.proofs.Common.{List, ℕ, sym, ◌∙◌, ap}
use Rattle.std.specs.Prelude.{count_by}
use Rattle.account_machine.specs.declared.factor.Factor.{Factor}
use Rattle.account_machine.specs.Outline.{is_pin_kind}
use Rattle.account_machine.proofs.Outlines.{pins-marks}
use Rattle.account_machine.proofs.outline.UserOutlined.pins.Goals as goal

pub returns : goal.returns
returns c =
    c.pins_among.ensures ∙ ap (count_by (λ (row : List ℕ × Factor). is_pin_kind row.1.kind)) c.rows.ensures
    ∙ sym (pins-marks c.args.self.now.durable.factors)
