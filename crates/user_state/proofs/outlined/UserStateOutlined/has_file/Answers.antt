use Rattle.std.proofs.Common.{List, ℕ, sym, ◌∙◌, ap}
use Rattle.std.specs.Prelude.{bytes_eq}
use Rattle.std.specs.List.{list_any}
use Rattle.stored_home.specs.declared.stored.Kept.{Kept}
use Rattle.user_state.proofs.RowLemmas.{has_name_among}
use Rattle.user_state.proofs.outlined.UserStateOutlined.has_file.Goals as goal

pub returns : goal.returns
returns c =
    c.is_among.ensures ∙ ap (list_any (λ (row : List ℕ × Kept). bytes_eq row.0 c.args.name.now)) c.rows.ensures
    ∙ sym (has_name_among c.args.self.now.stored.files c.args.name.now)
