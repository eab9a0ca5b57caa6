use Rattle.machine_step.proofs.Single.{one_step}
use Rattle.machine_step.proofs.laws.an_entry_leads_to_one_account.Goals as goal

pub returns : goal.returns
returns c = one_step
