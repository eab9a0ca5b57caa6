use Rattle.vault_crypt.proofs.FileLemmas.{opened-sealed}
use Rattle.vault_crypt.proofs.laws.sealed_file_opens.Goals as goal

pub returns : goal.returns
returns c = opened-sealed
