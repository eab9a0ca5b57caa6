use Rattle.vault_crypt.proofs.FileLemmas.{spelled-read}
use Rattle.vault_crypt.proofs.laws.read_file_is_spelled.Goals as goal

pub returns : goal.returns
returns c = spelled-read
