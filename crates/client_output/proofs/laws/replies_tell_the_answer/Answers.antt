-- The law is its lemma.
use Rattle.client_output.proofs.Telling.{told}
use Rattle.client_output.proofs.laws.replies_tell_the_answer.Goals as goal

pub returns : goal.returns
returns c = told
