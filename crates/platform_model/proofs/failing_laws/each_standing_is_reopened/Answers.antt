use Rattle.platform_model.proofs.SettlingLemmas.{left_reopens}
use Rattle.platform_model.proofs.failing_laws.each_standing_is_reopened.Goals as goal

pub returns : goal.returns
returns c = λ moment s q step late h allowed left.
    left_reopens moment s step.account step.op step.now q late h allowed left
