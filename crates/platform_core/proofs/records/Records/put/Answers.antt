use Rattle.std.proofs.Common.{Some, IsOk, refl, ap, subst}
use Rattle.std.specs.Result.{is_ok}
use Rattle.cabinet.specs.Edits.{File}
use Rattle.cabinet.specs.Held as cabinets
use Rattle.cabinet.specs.Named.{KeepsNames, unsure_changed}
use Rattle.share_api.specs.declared.step.Write.TheVariants.{Put}
use Rattle.share_api.specs.declared.step.Reply.TheVariants.{Done, Failed}
use Rattle.platform_core.specs.Kept.{board_of, memory_of}
use Rattle.platform_core.proofs.BoardLemmas.{changed_answers}
use Rattle.platform_core.proofs.UnsureLemmas.{known_without, known_with}
use Rattle.platform_core.proofs.records.Records.put.Goals as goal

pub returns-in-Ok-clause-answers : goal.returns-in-Ok-clause-answers
returns-in-Ok-clause-answers g c = λ account.
    let a = g.B.Board.disk (board_of c.args.self.now) in
    let b = g.B.Board.disk (cabinets.board_of c.put.new.self) in
    let name = c.args.name.now in
    changed_answers account a b (memory_of c.args.self.now) _
    (λ now then told after known. known_without a b (memory_of c.args.self.now)
    (cabinets.names_of c.put.new.self) c.without-self.result name now then told after known c.without-self.ensures
    (subst (λ r. KeepsNames (unsure_changed (is_ok r) name) a (cabinets.names_of c.args.self.now.cabinet) b
    (cabinets.names_of c.put.new.self)) c.in-Ok.is c.put.ensures.named))
    (Put name c.args.bytes.now) (File name (Some c.args.bytes.now)) (IsOk c.put.result) Done refl tt
    (λ ok. ap is_ok c.in-Ok.is) c.put.ensures.changes

-- a name whose put failed is unsure
pub returns-in-Err-clause-answers : goal.returns-in-Err-clause-answers
returns-in-Err-clause-answers g c = λ account.
    let a = g.B.Board.disk (board_of c.args.self.now) in
    let b = g.B.Board.disk (cabinets.board_of c.put.new.self) in
    let name = c.args.name.now in
    changed_answers account a b (memory_of c.args.self.now) _
    (λ now then told after known. known_with a b (memory_of c.args.self.now)
    (cabinets.names_of c.put.new.self) c.with-self.result name now then told after known c.with-self.ensures
    (subst (λ r. KeepsNames (unsure_changed (is_ok r) name) a (cabinets.names_of c.args.self.now.cabinet) b
    (cabinets.names_of c.put.new.self)) c.in-Err.is c.put.ensures.named))
    (Put name c.args.bytes.now) (File name (Some c.args.bytes.now)) (IsOk c.put.result) Failed refl tt
    (λ ok. absurd (ok refl)) c.put.ensures.changes
