-- The laws are their lemmas.
use Rattle.turn_meaning.proofs.BookSecrets.{book_clean}
use Rattle.turn_meaning.proofs.SecretLaws.{step_brings}
use Rattle.turn_meaning.proofs.laws.secrets_come_with_requests.Goals as goal

pub returns-clause-secrets : goal.returns-clause-secrets
returns-clause-secrets c = step_brings

pub returns-clause-clean : goal.returns-clause-clean
returns-clause-clean c = book_clean
