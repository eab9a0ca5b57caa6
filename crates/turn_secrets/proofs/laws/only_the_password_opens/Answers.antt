-- The law is its lemma.
use Rattle.turn_secrets.proofs.WrongPassword.{only_password_law}
use Rattle.turn_secrets.proofs.laws.only_the_password_opens.Goals as goal

pub returns : goal.returns
returns c = only_password_law
