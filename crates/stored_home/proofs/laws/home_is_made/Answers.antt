-- The law is its lemma.
use Rattle.stored_home.proofs.EditLemmas.{create_law}
use Rattle.stored_home.proofs.laws.home_is_made.Goals as goal

pub returns : goal.returns
returns c = create_law
