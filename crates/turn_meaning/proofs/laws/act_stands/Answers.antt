-- The law is its lemma.
use Rattle.turn_meaning.proofs.Joining.{stands}
use Rattle.turn_meaning.proofs.laws.act_stands.Goals as goal

pub returns : goal.returns
returns c = λ old new before after taken act. stands old new before after taken act
