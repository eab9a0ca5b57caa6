use Rattle.std.proofs.Common.{ℕ, List, None, IsOk, subst, sym, true≢false, ap}
use Rattle.std.specs.Result.{is_ok}
use Rattle.record_names.specs.Names.{Bytes}
use Rattle.cabinet.proofs.EditLemmas.{staged_changes, changes_as}
use Rattle.cabinet.proofs.NamedCalls.{removed_names, remove_failed_names}
use Rattle.cabinet.specs.Edits.{File, Changes}
use Rattle.cabinet.specs.Names.{without_name}
use Rattle.cabinet.specs.Named.{KeepsNames}
use Rattle.cabinet.specs.Held.{board_of, names_of}
use Rattle.cabinet.proofs.cabinet.Cabinet.remove.Goals as goal

-- the removal failed
pub returns-in-Err-clause-changes : goal.returns-in-Err-clause-changes
returns-in-Err-clause-changes g c =
    subst (λ (n : Bytes). Changes (g.B.Board.disk (board_of c.args.self.now)) (g.B.Board.disk c.remove.new.board) (File n None) _) c.as_str.ensures.value
    (changes_as (g.B.Board.disk (board_of c.args.self.now)) (g.B.Board.disk c.remove.new.board) (File c.as_str.result.now None) (IsOk c.remove.result) _ (λ o. absurd (true≢false (sym o)))
    (staged_changes c.as_str.result.now None (g.B.Board.disk (board_of c.args.self.now)) (g.B.Board.disk c.remove.new.board) c.remove.result
    c.remove.ensures.any_moment c.remove.ensures.durable c.remove.ensures.done c.remove.ensures.done_or_not))

pub returns-in-Ok-clause-changes : goal.returns-in-Ok-clause-changes
returns-in-Ok-clause-changes g c =
    subst (λ (n : Bytes). Changes (g.B.Board.disk (board_of c.args.self.now)) (g.B.Board.disk c.remove.new.board) (File n None) _) c.as_str.ensures.value
    (changes_as (g.B.Board.disk (board_of c.args.self.now)) (g.B.Board.disk c.remove.new.board) (File c.as_str.result.now None) (IsOk c.remove.result) _ (λ o. ap is_ok c.in-Ok.is)
    (staged_changes c.as_str.result.now None (g.B.Board.disk (board_of c.args.self.now)) (g.B.Board.disk c.remove.new.board) c.remove.result
    c.remove.ensures.any_moment c.remove.ensures.durable c.remove.ensures.done c.remove.ensures.done_or_not))

pub returns-in-Ok-clause-named : goal.returns-in-Ok-clause-named
returns-in-Ok-clause-named g c =
    let a = g.B.Board.disk (board_of c.args.self.now) in
    let b = g.B.Board.disk c.remove.new.board in
    let name = c.args.name.now in
    let changes = subst (λ (n : Bytes). Changes a b (File n None) (IsOk c.remove.result)) c.as_str.ensures.value
    (staged_changes c.as_str.result.now None a b c.remove.result c.remove.ensures.any_moment c.remove.ensures.durable c.remove.ensures.done c.remove.ensures.done_or_not) in
    subst (λ (names : List (List ℕ)). KeepsNames (λ unsure. without_name unsure name) a (names_of c.args.self.now) b names) (sym c.forget.ensures.names)
    (removed_names a b name c.as_str.ensures.name (names_of c.args.self.now) (IsOk c.remove.result) changes (ap is_ok c.in-Ok.is))

pub returns-in-Err-clause-named : goal.returns-in-Err-clause-named
returns-in-Err-clause-named g c =
    let a = g.B.Board.disk (board_of c.args.self.now) in
    let b = g.B.Board.disk c.remove.new.board in
    let name = c.args.name.now in
    let changes = subst (λ (n : Bytes). Changes a b (File n None) (IsOk c.remove.result)) c.as_str.ensures.value
    (staged_changes c.as_str.result.now None a b c.remove.result c.remove.ensures.any_moment c.remove.ensures.durable c.remove.ensures.done c.remove.ensures.done_or_not) in
    remove_failed_names a b name c.as_str.ensures.name (names_of c.args.self.now) (IsOk c.remove.result) changes
