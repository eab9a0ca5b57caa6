-- By induction over the steps.
use Rattle.platform_lock.proofs.CountLemmas.{counted}
use Rattle.platform_lock.proofs.laws.failed_steps_are_counted.Goals as goal

pub returns : goal.returns
returns c before now n chain rose failed = counted before now n chain rose failed
