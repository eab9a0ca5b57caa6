use Rattle.std.proofs.Common.{◌≡◌, List, refl, subst, sym, ◌∙◌}
use Rattle.std.specs.Prelude.{Contains, option_map, take}
use Rattle.std.specs.FinMap.{get}
use Rattle.std.specs.Result.{is_ok}
use Rattle.board_model.specs.Disk.{Image}
use Rattle.cabinet.specs.Held as cabinets
use Rattle.cabinet.specs.Named.{KeepsNames, unsure_read}
use Rattle.share_api.specs.Contents.{Bytes}
use Rattle.platform_core.specs.Picks.{AreFewer}
use Rattle.platform_core.specs.Kept.{board_of, memory_of}
use Rattle.platform_core.proofs.BoardLemmas.{of_told}
use Rattle.platform_core.proofs.UnsureLemmas.{known_without, known_same}
use Rattle.platform_core.proofs.PickLemmas.{fewer_read, other_read}
use Rattle.platform_core.proofs.LookLemmas.{looked_none, sure_there, found_there}
use Rattle.platform_core.proofs.records.Records.is_there.Goals as goal

-- a name that is sure has its record
pub returns-then-not-has-clause-there : goal.returns-then-not-has-clause-there
returns-then-not-has-clause-there g c = λ now told known held. (
  λ yes. sure_there now (memory_of c.args.self.now) c.args.name.now
      (sym c.has.ensures ∙ c.if-not-has.true) known held,
  λ there. refl,
)

pub returns-then-not-has-clause-looked : goal.returns-then-not-has-clause-looked
returns-then-not-has-clause-looked g c = looked_none (g.B.Board.disk (board_of c.args.self.now))
    (memory_of c.args.self.now) (g.met.B.Board.only_now (board_of c.args.self.now))

pub returns-in-Ok-clause-there : goal.returns-in-Ok-clause-there
returns-in-Ok-clause-there g c = λ now told known held.
    let name = c.args.name.now in
    let is = found_there now name c.in-Ok.found (of_told (λ (i : Image). c.in-Ok.found ≡ option_map (take 49182)
    (get i.files name)) (g.B.Board.disk (board_of c.args.self.now)).now now c.in-Ok.ensures.content told) in
    (λ yes. sym is ∙ sym c.is_some.ensures ∙ yes, λ there. c.is_some.ensures ∙ is ∙ there)

pub returns-in-Ok-clause-looked : goal.returns-in-Ok-clause-looked
returns-in-Ok-clause-looked g c =
    let a = g.B.Board.disk (board_of c.args.self.now) in
    let b = g.B.Board.disk (cabinets.board_of c.get.new.self) in
    let name = c.args.name.now in record {
      unchanged = c.get.ensures.unchanged;
      known = λ now told known. known_without a b (memory_of c.args.self.now)
          (cabinets.names_of c.get.new.self) c.without-self.result name now now told
          (c.get.ensures.unchanged.now ∙ told) known c.without-self.ensures
          (subst (λ r. KeepsNames (unsure_read (is_ok r) name) a (cabinets.names_of c.args.self.now.cabinet) b
          (cabinets.names_of c.get.new.self)) c.in-Ok.is c.get.ensures.named);
      fewer = subst (AreFewer (cabinets.names_of c.args.self.now.cabinet)) (sym c.get.ensures.names)
          (fewer_read c.get.result (cabinets.names_of c.args.self.now.cabinet) name);
    }

pub returns-in-Ok-clause-others : goal.returns-in-Ok-clause-others
returns-in-Ok-clause-others g c = λ q apart held.
    subst (λ (xs : List Bytes). Contains xs q) (sym c.get.ensures.names)
    (other_read c.get.result (cabinets.names_of c.args.self.now.cabinet) c.args.name.now q apart held)

pub returns-in-Err-clause-looked : goal.returns-in-Err-clause-looked
returns-in-Err-clause-looked g c =
    let a = g.B.Board.disk (board_of c.args.self.now) in
    let b = g.B.Board.disk (cabinets.board_of c.get.new.self) in
    let name = c.args.name.now in record {
      unchanged = c.get.ensures.unchanged;
      known = λ now told known. known_same a b (memory_of c.args.self.now)
          (cabinets.names_of c.get.new.self) c.args.self.now.unsure name now now told
          (c.get.ensures.unchanged.now ∙ told) known refl
          (subst (λ r. KeepsNames (unsure_read (is_ok r) name) a (cabinets.names_of c.args.self.now.cabinet) b
          (cabinets.names_of c.get.new.self)) c.in-Err.is c.get.ensures.named);
      fewer = subst (AreFewer (cabinets.names_of c.args.self.now.cabinet)) (sym c.get.ensures.names)
          (fewer_read c.get.result (cabinets.names_of c.args.self.now.cabinet) name);
    }

pub returns-in-Err-clause-others : goal.returns-in-Err-clause-others
returns-in-Err-clause-others g c = λ q apart held.
    subst (λ (xs : List Bytes). Contains xs q) (sym c.get.ensures.names)
    (other_read c.get.result (cabinets.names_of c.args.self.now.cabinet) c.args.name.now q apart held)
