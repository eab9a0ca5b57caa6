-- The law is its lemma, over the meanings of these kinds of data.
use Rattle.home_image.proofs.BookLemmas.{stands-new}
use Rattle.home_image.proofs.laws.new_book_stands.Goals as goal

pub returns : goal.returns
returns g c = stands-new g.P.Parts.meaning
