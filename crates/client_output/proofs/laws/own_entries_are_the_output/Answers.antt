-- The law is its lemma.
use Rattle.client_output.proofs.Growing.{output_of_books}
use Rattle.client_output.proofs.laws.own_entries_are_the_output.Goals as goal

pub returns : goal.returns
returns c = output_of_books
