-- The law is its lemma.
use Rattle.stored_home.proofs.EditLemmas.{unnamed_leaf_law}
use Rattle.stored_home.proofs.laws.unnamed_leaf_is_removed.Goals as goal

pub returns : goal.returns
returns c = unnamed_leaf_law
