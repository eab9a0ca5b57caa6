-- The law is its lemma.
use Rattle.turn_meaning.proofs.OpeningParts.{opening_stands}
use Rattle.turn_meaning.proofs.laws.opened_user_stands.Goals as goal

pub returns : goal.returns
returns c = opening_stands
