-- The law is its lemma.
use Rattle.stored_home.proofs.EditLemmas.{unnamed_record_law}
use Rattle.stored_home.proofs.laws.unnamed_record_is_removed.Goals as goal

pub returns : goal.returns
returns c = unnamed_record_law
