use Rattle.std.proofs.Common.{sym, ◌∙◌}
use Rattle.name_map.proofs.MappedLemmas.{len-map_values}
use Rattle.user_state.specs.Outlines.{mark_in}
use Rattle.user_state.proofs.outlined.UserStateOutlined.factors.Goals as goal

pub returns : goal.returns
returns c = c.len.ensures ∙ sym (len-map_values mark_in c.args.self.now.stored.factors)
