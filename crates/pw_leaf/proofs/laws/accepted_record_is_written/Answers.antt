use Rattle.pw_leaf.proofs.AcceptedLemmas.{IsWritten-accepted}
use Rattle.pw_leaf.proofs.laws.accepted_record_is_written.Goals as goal

pub returns : goal.returns
returns c keys bytes x fit ok = let is = IsWritten-accepted keys bytes x fit ok in (is.contents, is.whole)
