use Rattle.std.proofs.Common.{refl}
use Rattle.auth_session.proofs.TableLemmas.{changed-edit_at}
use Rattle.auth_session.proofs.laws.first_proof_is_the_machines.Goals as goal

pub returns : goal.returns
returns c = λ kept token main. changed-edit_at token _ _ (λ k. refl) kept
