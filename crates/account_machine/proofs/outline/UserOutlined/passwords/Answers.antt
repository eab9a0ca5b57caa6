use Rattle.std.proofs.Common.{List, ℕ, sym, ◌∙◌, ap}
use Rattle.std.specs.Prelude.{count_by}
use Rattle.account_machine.specs.declared.factor.Factor.{Factor}
use Rattle.account_machine.specs.Outline.{is_password_kind}
use Rattle.account_machine.proofs.Outlines.{passwords-marks}
use Rattle.account_machine.proofs.outline.UserOutlined.passwords.Goals as goal

pub returns : goal.returns
returns c =
    c.passwords_among.ensures ∙ ap (count_by (λ (row : List ℕ × Factor). is_password_kind row.1.kind)) c.rows.ensures
    ∙ sym (passwords-marks c.args.self.now.durable.factors)
