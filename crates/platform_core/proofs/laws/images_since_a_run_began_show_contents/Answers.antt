use Rattle.platform_core.specs.Held.{board_of, accounts_of, memory_of, is_unsettled}
use Rattle.platform_core.proofs.ChainLemmas.{chain_shows}
use Rattle.platform_core.proofs.laws.images_since_a_run_began_show_contents.Goals as goal

pub returns : goal.returns
returns g c = λ era first now chain image stands right left.
    chain_shows era (accounts_of now) (g.B.Board.disk (board_of first)) (g.B.Board.disk (board_of now))
    (memory_of first)
    (memory_of now) (is_unsettled now) chain stands right image left
