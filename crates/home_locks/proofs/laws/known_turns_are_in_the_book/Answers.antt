-- The law is its lemma.
use Rattle.home_locks.proofs.AccountLemmas.{own_stands}
use Rattle.home_locks.proofs.laws.known_turns_are_in_the_book.Goals as goal

pub returns : goal.returns
returns g c = own_stands
