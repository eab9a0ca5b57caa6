use Rattle.pin_recovery.proofs.OpeningLemmas.{opening_images}
use Rattle.pin_recovery.proofs.crash_laws.opening_is_crash_atomic.Goals as goal

pub returns : goal.returns
returns c = opening_images
