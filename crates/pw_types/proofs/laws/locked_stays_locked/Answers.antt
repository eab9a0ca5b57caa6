use Rattle.pw_types.proofs.DelayLemmas.{lock_stays}
use Rattle.pw_types.proofs.laws.locked_stays_locked.Goals as goal

pub returns : goal.returns
returns c = lock_stays
