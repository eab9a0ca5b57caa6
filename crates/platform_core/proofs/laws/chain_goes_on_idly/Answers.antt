use Rattle.image_path.proofs.StandLemmas.{lawful}
use Rattle.platform_core.specs.Held.{board_of, accounts_of, memory_of, is_unsettled}
use Rattle.platform_core.proofs.ChainLemmas.{chain_idle}
use Rattle.platform_core.proofs.laws.chain_goes_on_idly.Goals as goal

pub returns : goal.returns
returns g c = λ era first now chain step idle stands.
    let board = board_of now in
    chain_idle era (accounts_of now) (g.B.Board.disk (board_of first)) (g.B.Board.disk board) (memory_of first)
    (memory_of now)
    (is_unsettled now) step chain
    (lawful (g.B.Board.disk board) (g.met.B.Board.counts_now board) (g.met.B.Board.only_now board)) idle stands
