-- The law is its lemma.
use Rattle.turn_secrets.proofs.WrongPassword.{right_password_law}
use Rattle.turn_secrets.proofs.laws.password_opens_to_the_main_key.Goals as goal

pub returns : goal.returns
returns c = right_password_law
