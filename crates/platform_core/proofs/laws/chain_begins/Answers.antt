use Rattle.image_path.proofs.StandLemmas.{lawful}
use Rattle.platform_core.specs.Held.{board_of, accounts_of, memory_of, is_unsettled}
use Rattle.platform_core.proofs.ChainLemmas.{chain_start}
use Rattle.platform_core.proofs.laws.chain_begins.Goals as goal

pub returns : goal.returns
returns g c = λ era first.
    let board = board_of first in
    chain_start era (accounts_of first) (g.B.Board.disk board) (memory_of first) (is_unsettled first)
    (lawful (g.B.Board.disk board) (g.met.B.Board.counts_now board) (g.met.B.Board.only_now board))
