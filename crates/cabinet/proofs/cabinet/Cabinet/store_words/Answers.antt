use Rattle.cabinet.proofs.EditLemmas.{words_changes}
use Rattle.std.proofs.Common.{IsOk}
use Rattle.cabinet.proofs.NamedCalls.{stored_names}
use Rattle.cabinet.specs.Held.{board_of, names_of}
use Rattle.cabinet.proofs.cabinet.Cabinet.store_words.Goals as goal

pub returns-clause-changes : goal.returns-clause-changes
returns-clause-changes g c =
    words_changes c.args.words.now (g.B.Board.disk (board_of c.args.self.now)) (g.B.Board.disk c.nv_store.new.self) c.nv_store.result
    c.nv_store.ensures.crash c.nv_store.ensures.lasts c.nv_store.ensures.done c.nv_store.ensures.done_or_not

pub returns-clause-named : goal.returns-clause-named
returns-clause-named g c =
    let a = g.B.Board.disk (board_of c.args.self.now) in
    let b = g.B.Board.disk c.nv_store.new.self in
    stored_names a b (names_of c.args.self.now) c.args.words.now (IsOk c.nv_store.result)
    (words_changes c.args.words.now a b c.nv_store.result c.nv_store.ensures.crash c.nv_store.ensures.lasts c.nv_store.ensures.done c.nv_store.ensures.done_or_not)
