-- The law is its lemmas, over the meanings of these kinds of data.
use Rattle.home_image.proofs.BookLemmas.{opens-at_once, opened-at_once}
use Rattle.home_image.proofs.laws.no_steps_open_at_once.Goals as goal

pub returns : goal.returns
returns g c = λ state contents user.
    (opened-at_once g.P.Parts.meaning state contents user, opens-at_once g.P.Parts.meaning state contents user)
