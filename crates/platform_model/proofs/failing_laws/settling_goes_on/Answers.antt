use Rattle.platform_model.proofs.SettlingLemmas.{settling_left}
use Rattle.platform_model.proofs.failing_laws.settling_goes_on.Goals as goal

pub returns : goal.returns
returns c = settling_left
