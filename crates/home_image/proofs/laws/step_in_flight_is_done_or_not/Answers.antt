-- The law is its lemma, over the meanings of these kinds of data.
use Rattle.home_image.proofs.SettledLemmas.{left-in_flight}
use Rattle.home_image.proofs.laws.step_in_flight_is_done_or_not.Goals as goal

pub returns : goal.returns
returns g c = left-in_flight g.P.Parts.meaning
