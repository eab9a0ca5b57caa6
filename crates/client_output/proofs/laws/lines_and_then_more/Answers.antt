-- The law is its lemma.
use Rattle.client_output.proofs.Growing.{grew_then}
use Rattle.client_output.proofs.laws.lines_and_then_more.Goals as goal

pub returns : goal.returns
returns c = grew_then
