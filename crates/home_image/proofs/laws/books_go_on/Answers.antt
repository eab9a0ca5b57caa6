-- The law is its lemma, over the meanings of these kinds of data.
use Rattle.home_image.proofs.GoLemmas.{go-on}
use Rattle.home_image.proofs.laws.books_go_on.Goals as goal

pub returns : goal.returns
returns g c = go-on g.P.Parts.meaning
