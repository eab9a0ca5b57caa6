-- The law is its lemma.
use Rattle.stored_home.proofs.EditLemmas.{add_law}
use Rattle.stored_home.proofs.laws.factor_is_added.Goals as goal

pub returns : goal.returns
returns c = add_law
