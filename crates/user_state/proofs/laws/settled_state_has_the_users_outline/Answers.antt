use Rattle.user_state.proofs.OutlineLemmas.{same_outline}
use Rattle.user_state.proofs.laws.settled_state_has_the_users_outline.Goals as goal

pub returns : goal.returns
returns c = same_outline
