-- The law is its lemma.
use Rattle.turn_meaning.proofs.FaultLemmas.{faults_within}
use Rattle.turn_meaning.proofs.laws.faults_have_failed_steps.Goals as goal

pub returns : goal.returns
returns c = faults_within
