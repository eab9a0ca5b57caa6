-- The law is its lemma, over the meanings of these kinds of data.
use Rattle.home_image.proofs.GoLemmas.{go-turn}
use Rattle.home_image.proofs.laws.books_go_by_a_turn.Goals as goal

pub returns : goal.returns
returns g c = go-turn g.P.Parts.meaning
