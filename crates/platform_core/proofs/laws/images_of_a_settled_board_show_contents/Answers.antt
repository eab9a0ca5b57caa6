use Rattle.platform_core.specs.Held.{board_of, accounts_of, memory_of}
use Rattle.platform_core.proofs.ShownLemmas.{settled_shows}
use Rattle.platform_core.proofs.laws.images_of_a_settled_board_show_contents.Goals as goal

pub returns : goal.returns
returns g c = λ platform image right left.
    settled_shows (accounts_of platform) (g.B.Board.disk (board_of platform)) (memory_of platform) right image left
