use Rattle.platform_model.proofs.SettlingLemmas.{settling_ends}
use Rattle.platform_model.proofs.failing_laws.settling_ends_in_step.Goals as goal

pub returns : goal.returns
returns c = settling_ends
