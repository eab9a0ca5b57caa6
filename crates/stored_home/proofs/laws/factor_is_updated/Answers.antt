-- The law is its lemma.
use Rattle.stored_home.proofs.EditLemmas.{update_law}
use Rattle.stored_home.proofs.laws.factor_is_updated.Goals as goal

pub returns : goal.returns
returns c = update_law
