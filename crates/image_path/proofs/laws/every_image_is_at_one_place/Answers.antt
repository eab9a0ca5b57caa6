-- The contents that an image shows, with the list of those that led to them, are at a place of each book.
use Rattle.image_path.proofs.RecoveryLemmas.{images-at-one-place}
use Rattle.image_path.proofs.laws.every_image_is_at_one_place.Goals as goal

pub returns : goal.returns
returns g c = λ since tick ended accounts first board chain early own before after user book stands books parts opens clean
    fits i left.
    images-at-one-place g.P.Parts.meaning g.P.ImageParts.shows since first (g.B.Board.disk board) chain tick ended
    accounts early own before after user book stands books parts opens clean fits i left
