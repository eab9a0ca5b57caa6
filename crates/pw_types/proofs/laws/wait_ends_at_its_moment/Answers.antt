use Rattle.pw_types.proofs.DelayLemmas.{wait_ends}
use Rattle.pw_types.proofs.laws.wait_ends_at_its_moment.Goals as goal

pub returns : goal.returns
returns c = wait_ends
