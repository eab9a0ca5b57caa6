use Rattle.pin_recovery.proofs.AtomicLemmas.{crash_atomic}
use Rattle.pin_recovery.proofs.crash_laws.leaf_step_is_crash_atomic.Goals as goal

pub returns : goal.returns
returns c = crash_atomic
