-- The law is its lemma.
use Rattle.stored_home.proofs.EditLemmas.{update_pin_law}
use Rattle.stored_home.proofs.laws.pin_is_updated.Goals as goal

pub returns : goal.returns
returns c = update_pin_law
