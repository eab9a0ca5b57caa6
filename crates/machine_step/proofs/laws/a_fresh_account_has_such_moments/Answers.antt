use Rattle.machine_step.proofs.Moments.{timely_empty}
use Rattle.machine_step.proofs.laws.a_fresh_account_has_such_moments.Goals as goal

pub returns : goal.returns
returns c = λ era moment start last. record { start = start; last = last; stamps = timely_empty; other_stamps = tt }
