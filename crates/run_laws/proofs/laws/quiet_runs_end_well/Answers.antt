-- The law is its lemma.
use Rattle.run_laws.proofs.Quieting.{quiet_did}
use Rattle.run_laws.proofs.laws.quiet_runs_end_well.Goals as goal

pub returns : goal.returns
returns g c = λ asked before after left_over ending did quiet. quiet_did _ asked _ _ left_over ending did quiet
