use Rattle.std.proofs.Common.{sym, ◌∙◌}
use Rattle.account_machine.proofs.Outlines.{length-keys}
use Rattle.account_machine.proofs.outline.UserOutlined.files.Goals as goal

pub returns : goal.returns
returns c = c.len.ensures ∙ sym (length-keys c.args.self.now.durable.files)
