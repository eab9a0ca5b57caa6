use Rattle.record_names.proofs.NameLemmas.{names_tell}
use Rattle.record_names.proofs.laws.different_parts_have_different_names.Goals as goal

pub returns : goal.returns
returns c = names_tell
