-- The laws are their lemmas.
use Rattle.turn_meaning.proofs.WordLemmas.{costs_of_book, tails_of_book}
use Rattle.turn_meaning.proofs.laws.books_keep_to_the_first_state.Goals as goal

pub returns-clause-costs : goal.returns-clause-costs
returns-clause-costs c = costs_of_book

pub returns-clause-tails : goal.returns-clause-tails
returns-clause-tails c = tails_of_book
