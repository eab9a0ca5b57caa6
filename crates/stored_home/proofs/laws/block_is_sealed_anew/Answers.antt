-- The law is its lemma.
use Rattle.stored_home.proofs.EditLemmas.{reseal_law}
use Rattle.stored_home.proofs.laws.block_is_sealed_anew.Goals as goal

pub returns : goal.returns
returns c = reseal_law
