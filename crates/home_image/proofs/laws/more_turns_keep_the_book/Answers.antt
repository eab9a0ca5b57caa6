-- The law is its lemma, over the meanings of these kinds of data.
use Rattle.home_image.proofs.BookLemmas.{stands-more}
use Rattle.home_image.proofs.laws.more_turns_keep_the_book.Goals as goal

pub returns : goal.returns
returns g c = stands-more g.P.Parts.meaning
