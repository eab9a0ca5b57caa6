-- The law is its lemma, over the meanings of these kinds of data.
use Rattle.home_image.proofs.SettledLemmas.{at-left}
use Rattle.home_image.proofs.laws.image_is_at_one_place.Goals as goal

pub returns : goal.returns
returns g c = at-left g.P.Parts.meaning
