-- The law is its lemma.
use Rattle.client_output.proofs.Growing.{grew_none}
use Rattle.client_output.proofs.laws.no_lines.Goals as goal

pub returns : goal.returns
returns c = grew_none
