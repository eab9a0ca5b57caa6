use Rattle.machine_step.proofs.Moments.{step_keeps}
use Rattle.machine_step.proofs.laws.steps_keep_moments.Goals as goal

pub returns : goal.returns
returns c = step_keeps
