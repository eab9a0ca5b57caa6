use Rattle.std.proofs.Common.{◌≡◌, refl, subst, sym}
use Rattle.std.specs.Prelude.{option_map, take}
use Rattle.std.specs.FinMap.{get}
use Rattle.board_model.specs.Disk.{Image}
use Rattle.cabinet.specs.Held as cabinets
use Rattle.cabinet.specs.Named.{KeepsNames, unsure_read}
use Rattle.std.specs.Result.{is_ok}
use Rattle.share_api.specs.declared.step.Op.TheVariants.{Get}
use Rattle.share_api.specs.declared.step.Reply.TheVariants.{Found, Failed, NoMemory}
use Rattle.platform_core.specs.Picks.{AreFewer}
use Rattle.platform_core.specs.Kept.{board_of, memory_of}
use Rattle.platform_core.proofs.BoardLemmas.{read_answers, of_told}
use Rattle.platform_core.proofs.UnsureLemmas.{known_without, known_same}
use Rattle.platform_core.proofs.PickLemmas.{fewer_read}
use Rattle.platform_core.proofs.records.Records.get.Goals as goal

pub returns-in-Ok-clause-answers : goal.returns-in-Ok-clause-answers
returns-in-Ok-clause-answers g c = λ account.
    let a = g.B.Board.disk (board_of c.args.self.now) in
    let b = g.B.Board.disk (cabinets.board_of c.get.new.self) in
    let name = c.args.name.now in
    read_answers account a b (memory_of c.args.self.now) _
    (λ now then told after known. known_without a b (memory_of c.args.self.now)
    (cabinets.names_of c.get.new.self) c.without-self.result name now then told after known c.without-self.ensures
    (subst (λ r. KeepsNames (unsure_read (is_ok r) name) a (cabinets.names_of c.args.self.now.cabinet) b
    (cabinets.names_of c.get.new.self)) c.in-Ok.is c.get.ensures.named))
    (Get name) (Found c.in-Ok.found) refl c.get.ensures.unchanged
    (λ now told known. of_told (λ (i : Image). c.in-Ok.found ≡ option_map (take 49182) (get i.files name)) a.now now
    c.in-Ok.ensures.content told)

pub returns-in-Err-Failed-clause-answers : goal.returns-in-Err-Failed-clause-answers
returns-in-Err-Failed-clause-answers g c = λ account.
    let a = g.B.Board.disk (board_of c.args.self.now) in
    let b = g.B.Board.disk (cabinets.board_of c.get.new.self) in
    let name = c.args.name.now in
    read_answers account a b (memory_of c.args.self.now) _
    (λ now then told after known. known_same a b (memory_of c.args.self.now)
    (cabinets.names_of c.get.new.self) c.args.self.now.unsure name now then told after known refl
    (subst (λ r. KeepsNames (unsure_read (is_ok r) name) a (cabinets.names_of c.args.self.now.cabinet) b
    (cabinets.names_of c.get.new.self)) c.in-Err-Failed.is c.get.ensures.named))
    (Get name) Failed refl c.get.ensures.unchanged (λ now told known. tt)

pub returns-in-Err-clause-answers : goal.returns-in-Err-clause-answers
returns-in-Err-clause-answers g c = λ account.
    let a = g.B.Board.disk (board_of c.args.self.now) in
    let b = g.B.Board.disk (cabinets.board_of c.get.new.self) in
    let name = c.args.name.now in
    read_answers account a b (memory_of c.args.self.now) _
    (λ now then told after known. known_same a b (memory_of c.args.self.now)
    (cabinets.names_of c.get.new.self) c.args.self.now.unsure name now then told after known refl
    (subst (λ r. KeepsNames (unsure_read (is_ok r) name) a (cabinets.names_of c.args.self.now.cabinet) b
    (cabinets.names_of c.get.new.self)) c.in-Err.is c.get.ensures.named))
    (Get name) NoMemory refl c.get.ensures.unchanged (λ now told known. tt)

pub returns-in-Ok-clause-fewer : goal.returns-in-Ok-clause-fewer
returns-in-Ok-clause-fewer g c = subst (AreFewer (cabinets.names_of c.args.self.now.cabinet)) (sym c.get.ensures.names)
    (fewer_read c.get.result (cabinets.names_of c.args.self.now.cabinet) c.args.name.now)

pub returns-in-Err-Failed-clause-fewer : goal.returns-in-Err-Failed-clause-fewer
returns-in-Err-Failed-clause-fewer g c = subst (AreFewer (cabinets.names_of c.args.self.now.cabinet))
    (sym c.get.ensures.names) (fewer_read c.get.result (cabinets.names_of c.args.self.now.cabinet) c.args.name.now)

pub returns-in-Err-clause-fewer : goal.returns-in-Err-clause-fewer
returns-in-Err-clause-fewer g c = subst (AreFewer (cabinets.names_of c.args.self.now.cabinet)) (sym c.get.ensures.names)
    (fewer_read c.get.result (cabinets.names_of c.args.self.now.cabinet) c.args.name.now)
