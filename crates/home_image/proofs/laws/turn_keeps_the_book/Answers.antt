-- The law is its lemma, over the meanings of these kinds of data.
use Rattle.home_image.proofs.BookLemmas.{stands-turn}
use Rattle.home_image.proofs.laws.turn_keeps_the_book.Goals as goal

pub returns : goal.returns
returns g c = stands-turn g.P.Parts.meaning
