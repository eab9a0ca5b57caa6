use Rattle.pw_types.proofs.DelayLemmas.{IsDeciding, deciding_is}
use Rattle.pw_types.proofs.laws.deciding_pair.Goals as goal

pub returns : goal.returns
unfolding IsDeciding
returns c = deciding_is
