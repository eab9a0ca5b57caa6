use Rattle.platform_model.proofs.StepLemmas.{folded}
use Rattle.platform_model.proofs.laws.each_account_has_its_own_steps.Goals as goal

pub returns : goal.returns
returns c = folded
