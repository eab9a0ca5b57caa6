-- The law is its lemma.
use Rattle.stored_home.proofs.EditLemmas.{put_file_law}
use Rattle.stored_home.proofs.laws.vault_file_is_put.Goals as goal

pub returns : goal.returns
returns c = put_file_law
