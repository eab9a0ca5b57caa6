use Rattle.record_names.proofs.NameLemmas.{account_of-name}
use Rattle.record_names.proofs.laws.name_tells_its_account.Goals as goal

pub returns : goal.returns
returns c = account_of-name
