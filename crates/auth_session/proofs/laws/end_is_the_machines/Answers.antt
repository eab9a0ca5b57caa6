use Rattle.auth_session.proofs.TableLemmas.{ended-remove}
use Rattle.auth_session.proofs.laws.end_is_the_machines.Goals as goal

pub returns : goal.returns
returns c = λ kept token inside. ended-remove token kept inside
