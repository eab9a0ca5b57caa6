-- The law is its lemma, over the meanings of these kinds of data.
use Rattle.home_image.proofs.SettledLemmas.{last-place, places-few}
use Rattle.home_image.proofs.laws.end_is_the_greatest_place.Goals as goal

pub returns-clause-last : goal.returns-clause-last
returns-clause-last g c = last-place g.P.Parts.meaning

pub returns-clause-within : goal.returns-clause-within
returns-clause-within g c = places-few g.P.Parts.meaning
