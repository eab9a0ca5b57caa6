use Rattle.std.proofs.Common.{Some, sym, ◌∙◌, ap}
use Rattle.std.specs.Prelude.{option_map}
use Rattle.name_map.proofs.MappedLemmas.{get-map_values}
use Rattle.account_machine.specs.User.{mark_of}
use Rattle.account_machine.proofs.outline.UserOutlined.mark.Goals as goal

-- no factor, no mark
pub returns-in-None : goal.returns-in-None
returns-in-None c = ap (option_map mark_of) c.in-None.ensures ∙ sym (get-map_values mark_of c.args.self.now.durable.factors c.args.label.now)

pub returns-in-Some : goal.returns-in-Some
returns-in-Some c = ap Some c.mark.ensures ∙ ap (option_map mark_of) c.in-Some.ensures ∙ sym (get-map_values mark_of c.args.self.now.durable.factors c.args.label.now)
