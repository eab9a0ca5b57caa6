-- The law is its lemma.
use Rattle.user_accounts.proofs.DamageLemmas.{damage_forgotten}
use Rattle.user_accounts.proofs.laws.damage_may_be_no_memory.Goals as goal

pub returns : goal.returns
returns c = λ old new before after entry name is act. damage_forgotten old new before after entry name is act
