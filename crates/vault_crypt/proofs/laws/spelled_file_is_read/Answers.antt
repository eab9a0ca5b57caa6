use Rattle.vault_crypt.proofs.FileLemmas.{read-spelled}
use Rattle.vault_crypt.proofs.laws.spelled_file_is_read.Goals as goal

pub returns : goal.returns
returns c = read-spelled
