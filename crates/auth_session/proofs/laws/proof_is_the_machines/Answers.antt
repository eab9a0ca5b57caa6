use Rattle.std.proofs.Common.{refl}
use Rattle.auth_session.proofs.TableLemmas.{changed-edit_at}
use Rattle.auth_session.proofs.laws.proof_is_the_machines.Goals as goal

pub returns : goal.returns
returns c = λ kept token main moment. changed-edit_at token _ _ (λ k. refl) kept
