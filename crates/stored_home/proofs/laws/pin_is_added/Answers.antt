-- The law is its lemma.
use Rattle.stored_home.proofs.EditLemmas.{add_pin_law}
use Rattle.stored_home.proofs.laws.pin_is_added.Goals as goal

pub returns : goal.returns
returns c = add_pin_law
