use Rattle.cabinet.proofs.NamedCalls.{kept_names}
use Rattle.cabinet.specs.Held.{board_of, names_of}
use Rattle.cabinet.proofs.cabinet.Cabinet.load_words.Goals as goal

pub returns-clause-named : goal.returns-clause-named
returns-clause-named g c =
    kept_names (g.B.Board.disk (board_of c.args.self.now)) (g.B.Board.disk c.nv_load.new.self) (names_of c.args.self.now) c.nv_load.ensures.unchanged.now
