-- The law is its lemma, over the meanings of these kinds of data.
use Rattle.home_image.proofs.SettledLemmas.{owned-more}
use Rattle.home_image.proofs.laws.steps_and_then_more.Goals as goal

pub returns : goal.returns
returns g c = owned-more g.P.Parts.meaning
