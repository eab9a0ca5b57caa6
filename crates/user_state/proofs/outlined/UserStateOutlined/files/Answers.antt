use Rattle.std.proofs.Common.{sym, ◌∙◌}
use Rattle.user_state.proofs.RowLemmas.{length_names}
use Rattle.user_state.proofs.outlined.UserStateOutlined.files.Goals as goal

pub returns : goal.returns
returns c = c.len.ensures ∙ sym (length_names c.args.self.now.stored.files)
