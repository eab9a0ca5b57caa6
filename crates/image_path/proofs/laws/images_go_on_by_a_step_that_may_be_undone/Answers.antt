-- The lemmas on a step from either family, by the laws of the board.
use Rattle.image_path.proofs.StandLemmas.{lawful}
use Rattle.image_path.proofs.DoubtLemmas.{stands-from-step, since-from-step}
use Rattle.image_path.proofs.laws.images_go_on_by_a_step_that_may_be_undone.Goals as goal

pub returns-clause-now : goal.returns-clause-now
returns-clause-now g c = λ since first old new chain step before after goes stands.
    stands-from-step g.P.Parts.meaning.account g.P.Parts.meaning.does g.P.ImageParts.shows since first (g.P.ImageParts.goes_back before)
    (g.P.ImageParts.goes_back after) (g.B.Board.disk old) (g.B.Board.disk new) step chain goes
    (lawful (g.B.Board.disk new) (g.met.B.Board.counts_now new) (g.met.B.Board.only_now new)) stands

pub returns-clause-since : goal.returns-clause-since
returns-clause-since g c = λ since tick ended first old new chain step before after goes stands was sooner fits.
    since-from-step g.P.Parts.meaning.account g.P.Parts.meaning.does g.P.ImageParts.shows since first (g.P.ImageParts.goes_back before)
    (g.P.ImageParts.goes_back after) (g.B.Board.disk old) (g.B.Board.disk new) step chain goes
    (lawful (g.B.Board.disk new) (g.met.B.Board.counts_now new) (g.met.B.Board.only_now new)) stands tick ended was fits
    (λ i left. g.met.B.Board.since_earlier new since tick i sooner left)
