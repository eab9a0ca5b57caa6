use Rattle.pin_recovery.proofs.ReplyLemmas.{answered}
use Rattle.pin_recovery.proofs.call_laws.answers_are_to_the_own_leaf.Goals as goal

pub returns : goal.returns
returns c = answered
