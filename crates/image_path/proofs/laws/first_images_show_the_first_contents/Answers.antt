-- What each image shows is led by no step.
use Rattle.std.proofs.Common.{refl}
use Rattle.image_path.proofs.StandLemmas.{lawful, stands-start, since-now}
use Rattle.image_path.proofs.laws.first_images_show_the_first_contents.Goals as goal

pub returns-clause-now : goal.returns-clause-now
returns-clause-now g c = λ board first shown.
    stands-start g.P.Parts.meaning.account g.P.Parts.meaning.does g.P.ImageParts.shows (g.B.Board.disk board).ticks first (g.B.Board.disk board)
    (lawful (g.B.Board.disk board) (g.met.B.Board.counts_now board) (g.met.B.Board.only_now board)) refl shown

pub returns-clause-since : goal.returns-clause-since
returns-clause-since g c = λ board since first chain stands.
    since-now g.P.Parts.meaning.account g.P.Parts.meaning.does g.P.ImageParts.shows since first (g.B.Board.disk board) chain
    (lawful (g.B.Board.disk board) (g.met.B.Board.counts_now board) (g.met.B.Board.only_now board)) stands
