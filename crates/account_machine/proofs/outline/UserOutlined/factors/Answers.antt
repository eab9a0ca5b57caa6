use Rattle.std.proofs.Common.{sym, ◌∙◌}
use Rattle.name_map.proofs.MappedLemmas.{len-map_values}
use Rattle.account_machine.specs.User.{mark_of}
use Rattle.account_machine.proofs.outline.UserOutlined.factors.Goals as goal

pub returns : goal.returns
returns c = c.len.ensures ∙ sym (len-map_values mark_of c.args.self.now.durable.factors)
