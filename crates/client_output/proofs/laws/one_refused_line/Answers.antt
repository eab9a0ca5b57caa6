-- The law is its lemma.
use Rattle.client_output.proofs.Growing.{grew_refused}
use Rattle.client_output.proofs.laws.one_refused_line.Goals as goal

pub returns : goal.returns
returns c = grew_refused
