use Rattle.auth_session.proofs.TableLemmas.{with_session-kept}
use Rattle.auth_session.proofs.laws.start_is_the_machines.Goals as goal

pub returns : goal.returns
returns c = with_session-kept
