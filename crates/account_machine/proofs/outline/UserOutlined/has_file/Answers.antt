use Rattle.std.proofs.Common.{List, ℕ, sym, ◌∙◌, ap}
use Rattle.std.specs.Prelude.{bytes_eq}
use Rattle.std.specs.List.{list_any}
use Rattle.account_machine.proofs.Outlines.{has_name-keys}
use Rattle.account_machine.proofs.outline.UserOutlined.has_file.Goals as goal

pub returns : goal.returns
returns c =
    c.is_among.ensures ∙ ap (list_any (λ (row : List ℕ × List ℕ). bytes_eq row.0 c.args.name.now)) c.rows.ensures
    ∙ sym (has_name-keys c.args.self.now.durable.files c.args.name.now)
