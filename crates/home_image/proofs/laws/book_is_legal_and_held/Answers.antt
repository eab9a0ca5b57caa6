-- The law is its lemma, over the meanings of these kinds of data.
use Rattle.home_image.proofs.EndLemmas.{ends-led}
use Rattle.home_image.proofs.laws.book_is_legal_and_held.Goals as goal

pub returns : goal.returns
returns g c = ends-led g.P.Parts.meaning
