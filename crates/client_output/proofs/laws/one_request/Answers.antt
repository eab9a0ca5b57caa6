-- The law is its lemma.
use Rattle.client_output.proofs.Growing.{grew_call}
use Rattle.client_output.proofs.laws.one_request.Goals as goal

pub returns : goal.returns
returns c = grew_call
