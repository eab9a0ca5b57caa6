use Rattle.pin_recovery.proofs.OpeningLemmas.{settling_images, settling_ends}
use Rattle.pin_recovery.proofs.crash_laws.settling_is_crash_atomic.Goals as goal

pub returns-clause-images : goal.returns-clause-images
returns-clause-images c = settling_images

pub returns-clause-ends : goal.returns-clause-ends
returns-clause-ends c = settling_ends
