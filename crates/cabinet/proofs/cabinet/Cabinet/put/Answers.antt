use Rattle.std.proofs.Common.{⊎_elim, inl, inr, ℕ, List, Some, IsOk, subst, sym, arith}
use Rattle.std.specs.Result.{is_ok}
use Rattle.board_model.specs.Files.{IsTemporary}
use Rattle.cabinet.proofs.EditLemmas.{staged_changes}
use Rattle.cabinet.proofs.NamedCalls.{put_names}
use Rattle.cabinet.proofs.PlainNames.{plain_name}
use Rattle.record_names.specs.Names.{Bytes}
use Rattle.cabinet.specs.Edits.{File, Changes}
use Rattle.cabinet.specs.Named.{KeepsNames, unsure_changed}
use Rattle.cabinet.specs.Held.{board_of, names_of}
use Rattle.cabinet.proofs.cabinet.Cabinet.put.Goals as goal

-- a record's name isn't a temporary file's
pub put-requires-clause-plain : goal.put-requires-clause-plain
put-requires-clause-plain g c = λ temporary. plain_name c.args.name.now c.as_str.ensures.name (subst IsTemporary c.as_str.ensures.value temporary)

-- there is room for as many names as were asked for
pub hold-requires : goal.hold-requires
hold-requires g c = ⊎_elim (λ held. inl held) (λ few. inr (omega (arith, few, c.args.self.now.room))) c.requires.room

pub returns-clause-changes : goal.returns-clause-changes
returns-clause-changes g c =
    subst (λ (n : Bytes). Changes (g.B.Board.disk (board_of c.args.self.now)) (g.B.Board.disk c.put.new.board) (File n (Some c.args.bytes.now)) (IsOk c.put.result)) c.as_str.ensures.value
    (staged_changes c.as_str.result.now (Some c.args.bytes.now) (g.B.Board.disk (board_of c.args.self.now)) (g.B.Board.disk c.put.new.board) c.put.result
    c.put.ensures.any_moment c.put.ensures.durable c.put.ensures.done c.put.ensures.done_or_not)

pub returns-clause-named : goal.returns-clause-named
returns-clause-named g c =
    let a = g.B.Board.disk (board_of c.args.self.now) in
    let b = g.B.Board.disk c.put.new.board in
    let name = c.args.name.now in
    subst (λ (names : List (List ℕ)). KeepsNames (unsure_changed (is_ok c.put.result) name) a (names_of c.args.self.now) b names) (sym c.hold.ensures.names)
    (put_names a b name c.as_str.ensures.name (names_of c.args.self.now) c.args.bytes.now c.put.result
    (subst (λ (n : Bytes). Changes a b (File n (Some c.args.bytes.now)) (IsOk c.put.result)) c.as_str.ensures.value
    (staged_changes c.as_str.result.now (Some c.args.bytes.now) a b c.put.result c.put.ensures.any_moment c.put.ensures.durable c.put.ensures.done c.put.ensures.done_or_not)))
