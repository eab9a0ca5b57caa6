-- The law is its lemma.
use Rattle.stored_home.proofs.EditLemmas.{remove_pin_law}
use Rattle.stored_home.proofs.laws.pin_is_removed.Goals as goal

pub returns : goal.returns
returns c = remove_pin_law
