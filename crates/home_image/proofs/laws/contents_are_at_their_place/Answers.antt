-- The law is its lemma, over the meanings of these kinds of data.
use Rattle.home_image.proofs.PlaceLemmas.{at-led}
use Rattle.home_image.proofs.laws.contents_are_at_their_place.Goals as goal

pub returns : goal.returns
returns g c = at-led g.P.Parts.meaning
