use Rattle.platform_model.proofs.StepLemmas.{same_step}
use Rattle.platform_model.proofs.laws.other_accounts_make_no_difference.Goals as goal

pub returns : goal.returns
returns c = same_step
