use Rattle.platform_core.specs.Held.{board_of, accounts_of, memory_of, is_unsettled}
use Rattle.platform_core.proofs.ShownLemmas.{right_shows}
use Rattle.platform_core.proofs.laws.what_is_there_shows_contents.Goals as goal

pub returns : goal.returns
returns g c = λ platform right.
    right_shows (accounts_of platform) (g.B.Board.disk (board_of platform)) (memory_of platform)
    (is_unsettled platform) right
