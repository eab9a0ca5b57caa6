use Rattle.std.proofs.Common.{sym, ◌∙◌, ap}
use Rattle.std.specs.Prelude.{option_map}
use Rattle.name_map.proofs.MappedLemmas.{get-map_values}
use Rattle.user_state.specs.Outlines.{mark_in}
use Rattle.user_state.proofs.outlined.UserStateOutlined.mark.Goals as goal

-- no factor, no mark
pub returns-in-None : goal.returns-in-None
returns-in-None c =
    ap (option_map mark_in) c.in-None.ensures
    ∙ sym (get-map_values mark_in c.args.self.now.stored.factors c.args.label.now)

pub returns-in-Some : goal.returns-in-Some
returns-in-Some c =
    ap (option_map mark_in) c.in-Some.ensures
    ∙ sym (get-map_values mark_in c.args.self.now.stored.factors c.args.label.now)
