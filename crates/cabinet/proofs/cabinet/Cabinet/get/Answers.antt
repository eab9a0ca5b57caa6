use Rattle.std.proofs.Common.{ℕ, List, IfSome, take, subst, sym, ap, ◌≡◌}
use Rattle.std.specs.Prelude.{is_some, option_map}
use Rattle.std.specs.FinMap.{get}
use Rattle.record_names.specs.Names.{Bytes}
use Rattle.cabinet.proofs.NamedCalls.{found_names, absent_names}
use Rattle.cabinet.specs.Names.{without_name}
use Rattle.cabinet.specs.Named.{KeepsNames}
use Rattle.cabinet.specs.Held.{board_of, names_of}
use Rattle.cabinet.proofs.cabinet.Cabinet.get.Goals as goal

-- a record that was found is there
pub returns-in-Ok-Some-clause-named : goal.returns-in-Ok-Some-clause-named
returns-in-Ok-Some-clause-named g c =
    let a = g.B.Board.disk (board_of c.args.self.now) in
    found_names a (g.B.Board.disk c.read.new.self) c.args.name.now (names_of c.args.self.now) (take 49182) c.in-Ok-Some.field-0 c.read.ensures.unchanged.now
    (subst (λ (n : Bytes). IfSome a.now (λ now. c.in-Ok-Some.field-0 ≡ option_map (take 49182) (get now.files n))) c.as_str.ensures.value c.in-Ok-Some.ensures.content)
    (ap is_some c.in-Ok-Some.field-0-is)

-- the name of one that wasn't is held no longer
pub returns-in-Ok-None-clause-named : goal.returns-in-Ok-None-clause-named
returns-in-Ok-None-clause-named g c =
    let a = g.B.Board.disk (board_of c.args.self.now) in
    let b = g.B.Board.disk c.read.new.self in
    subst (λ (names : List (List ℕ)). KeepsNames (λ unsure. without_name unsure c.args.name.now) a (names_of c.args.self.now) b names) (sym c.forget.ensures.names)
    (absent_names a b c.args.name.now (names_of c.args.self.now) (take 49182) c.in-Ok-None.field-0 c.read.ensures.unchanged.now
    (subst (λ (n : Bytes). IfSome a.now (λ now. c.in-Ok-None.field-0 ≡ option_map (take 49182) (get now.files n))) c.as_str.ensures.value c.in-Ok-None.ensures.content)
    c.in-Ok-None.field-0-is)
