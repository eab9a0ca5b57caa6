use Rattle.pw_types.proofs.DelayLemmas.{more_tries_wait}
use Rattle.pw_types.proofs.laws.more_tries_wait_longer.Goals as goal

pub returns : goal.returns
returns c = more_tries_wait
