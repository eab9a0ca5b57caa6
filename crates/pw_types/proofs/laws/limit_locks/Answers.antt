use Rattle.pw_types.proofs.DelayLemmas.{limit_is_locked}
use Rattle.pw_types.proofs.laws.limit_locks.Goals as goal

pub returns : goal.returns
returns c = limit_is_locked
