-- The lemmas on work that is no step.
use Rattle.image_path.proofs.StandLemmas.{lawful, stands-quiet, since-quiet}
use Rattle.image_path.proofs.laws.images_stay_where_nothing_is_shown_anew.Goals as goal

pub returns-clause-now : goal.returns-clause-now
returns-clause-now g c = λ since first old new chain quiet stands.
    stands-quiet g.P.Parts.meaning.account g.P.Parts.meaning.does g.P.ImageParts.shows since first (g.B.Board.disk old) (g.B.Board.disk new) chain quiet
    (lawful (g.B.Board.disk new) (g.met.B.Board.counts_now new) (g.met.B.Board.only_now new)) stands

pub returns-clause-since : goal.returns-clause-since
returns-clause-since g c = λ since tick ended first old new chain quiet stands was fits.
    since-quiet g.P.Parts.meaning.account g.P.Parts.meaning.does g.P.ImageParts.shows since first (g.B.Board.disk old) (g.B.Board.disk new) chain quiet
    (lawful (g.B.Board.disk new) (g.met.B.Board.counts_now new) (g.met.B.Board.only_now new)) stands tick ended was fits
