-- The law is its lemma.
use Rattle.client_output.proofs.Growing.{grew_starved}
use Rattle.client_output.proofs.laws.one_line_without_memory.Goals as goal

pub returns : goal.returns
returns c = grew_starved
