use Rattle.std.proofs.Common.{None, IsOk, refl, ap, subst, sym, ◌∙◌, if◌then◌else◌}
use Rattle.std.specs.Result.{is_ok}
use Rattle.cabinet.specs.Edits.{File}
use Rattle.cabinet.specs.Held as cabinets
use Rattle.cabinet.specs.Names.{without_name}
use Rattle.cabinet.specs.Named.{KeepsNames, unsure_changed}
use Rattle.share_api.specs.declared.step.Write.TheVariants.{Remove}
use Rattle.share_api.specs.declared.step.Reply.TheVariants.{Done, Failed}
use Rattle.platform_core.specs.Picks.{AreFewer}
use Rattle.platform_core.specs.Kept.{board_of, memory_of}
use Rattle.platform_core.proofs.BoardLemmas.{changed_answers}
use Rattle.platform_core.proofs.UnsureLemmas.{known_without, known_with}
use Rattle.platform_core.proofs.PickLemmas.{fewer_same, fewer_without}
use Rattle.platform_core.proofs.records.Records.remove.Goals as goal

pub returns-in-Ok-clause-answers : goal.returns-in-Ok-clause-answers
returns-in-Ok-clause-answers g c = λ account.
    let a = g.B.Board.disk (board_of c.args.self.now) in
    let b = g.B.Board.disk (cabinets.board_of c.remove.new.self) in
    let name = c.args.name.now in
    changed_answers account a b (memory_of c.args.self.now) _
    (λ now next told after known. known_without a b (memory_of c.args.self.now)
    (cabinets.names_of c.remove.new.self) c.without-self.result name now next told after known
    c.without-self.ensures
    (subst (λ r. KeepsNames (unsure_changed (is_ok r) name) a (cabinets.names_of c.args.self.now.cabinet) b
    (cabinets.names_of c.remove.new.self)) c.in-Ok.is c.remove.ensures.named))
    (Remove name) (File name None) (IsOk c.remove.result) Done refl tt
    (λ ok. ap is_ok c.in-Ok.is) c.remove.ensures.changes

-- a name whose removal failed is unsure
pub returns-in-Err-clause-answers : goal.returns-in-Err-clause-answers
returns-in-Err-clause-answers g c = λ account.
    let a = g.B.Board.disk (board_of c.args.self.now) in
    let b = g.B.Board.disk (cabinets.board_of c.remove.new.self) in
    let name = c.args.name.now in
    changed_answers account a b (memory_of c.args.self.now) _
    (λ now next told after known. known_with a b (memory_of c.args.self.now)
    (cabinets.names_of c.remove.new.self) c.with-self.result name now next told after known c.with-self.ensures
    (subst (λ r. KeepsNames (unsure_changed (is_ok r) name) a (cabinets.names_of c.args.self.now.cabinet) b
    (cabinets.names_of c.remove.new.self)) c.in-Err.is c.remove.ensures.named))
    (Remove name) (File name None) (IsOk c.remove.result) Failed refl tt
    (λ ok. absurd (ok refl)) c.remove.ensures.changes

pub returns-in-Ok-clause-fewer : goal.returns-in-Ok-clause-fewer
returns-in-Ok-clause-fewer g c =
    let names = cabinets.names_of c.args.self.now.cabinet in
    subst (AreFewer names) (sym (c.remove.ensures.names ∙ ap (λ r. if is_ok r then without_name names
    c.args.name.now else names) c.in-Ok.is)) (fewer_without names c.args.name.now)

pub returns-in-Err-clause-fewer : goal.returns-in-Err-clause-fewer
returns-in-Err-clause-fewer g c =
    let names = cabinets.names_of c.args.self.now.cabinet in
    fewer_same names (cabinets.names_of c.remove.new.self) (c.remove.ensures.names
    ∙ ap (λ r. if is_ok r then without_name names c.args.name.now else names) c.in-Err.is)
