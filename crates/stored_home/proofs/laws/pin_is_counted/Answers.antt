-- The law is its lemma.
use Rattle.stored_home.proofs.EditLemmas.{count_law}
use Rattle.stored_home.proofs.laws.pin_is_counted.Goals as goal

pub returns : goal.returns
returns c = count_law
