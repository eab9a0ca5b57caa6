use Rattle.cabinet.proofs.EditLemmas.{settled_by}
use Rattle.cabinet.proofs.NamedCalls.{kept_names}
use Rattle.cabinet.specs.Held.{board_of, names_of}
use Rattle.cabinet.proofs.cabinet.Cabinet.settle.Goals as goal

pub returns-clause-settled : goal.returns-clause-settled
returns-clause-settled g c =
    settled_by c.sync_dir.result (g.B.Board.disk (board_of c.args.self.now)) (g.B.Board.disk c.sync_dir.new.self) c.sync_dir.ensures.unchanged.now c.sync_dir.ensures.stands

pub returns-clause-named : goal.returns-clause-named
returns-clause-named g c =
    kept_names (g.B.Board.disk (board_of c.args.self.now)) (g.B.Board.disk c.sync_dir.new.self) (names_of c.args.self.now) c.sync_dir.ensures.unchanged.now
