use Rattle.std.proofs.Common.{◌≤◌, [], length, refl, sym, subst, ◌∙◌, arith}
use Rattle.std.specs.Prelude.{Contains}
use Rattle.std.proofs.lemmas.List.{get_or_default}
use Rattle.cabinet.specs.Named.{IsThere}
use Rattle.cabinet.specs.declared.fault.CabinetFault.TheVariants.{Failed}
use Rattle.platform_core.specs.Picks.{Picked}
use Rattle.platform_core.specs.Kept.{board_of, names_of, memory_of}
use Rattle.platform_core.proofs.PickLemmas.{picked_none, picked_more, picked_whole}
use Rattle.platform_core.proofs.LookLemmas.{looked_none, looked_then, left_held, held_at}
use Rattle.platform_core.proofs.records.Records.those_there.Goals as goal

pub loop-name-init : goal.loop-name-init
loop-name-init g c = record {
  looked = looked_none (g.B.Board.disk (board_of c.args.self.now)) (memory_of c.args.self.now)
      (g.met.B.Board.only_now (board_of c.args.self.now));
  picked = λ now told known once held. (
    subst (Picked (IsThere now) []) (sym c.new-there.ensures.items) (picked_none (IsThere now)),
    λ j later inside. held_at c.args.own.now (names_of c.args.self.now) j inside held,
  );
  faults = refl;
  accounts = refl;
  most = refl;
}

pub loop-name-preserved : goal.loop-name-preserved
loop-name-preserved g c =
    let before = c.args.self.now in
    let mid = c.loop-name.self in
    let after = c.add_there.new.self in
    let own = c.args.own.now in
    let k = c.loop-name.name-index in
    let name = c.name-item.result in
    record {
      looked = looked_then (g.B.Board.disk (board_of before)) (g.B.Board.disk (board_of mid))
          (g.B.Board.disk (board_of after)) (memory_of before) (memory_of mid) (memory_of after)
          c.loop-name.invariant.looked c.add_there.ensures.looked;
      picked = λ now told known once held.
          let was = c.loop-name.invariant.picked now told known once held in
          let same = c.loop-name.invariant.looked in
          let there = c.in_default.ensures.there now (same.unchanged.now ∙ told) (same.known now told known)
          (subst (Contains (names_of mid)) (sym (c.name-item.is ∙ get_or_default own k name [] c.loop-name-test.true))
          (was.1 k (omega arith) c.loop-name-test.true)) in (
            picked_more (IsThere now) own c.loop-name.there.items c.add_there.new.there.items k name
                c.loop-name-test.true c.name-item.is was.0 there,
            left_held own (names_of mid) (names_of after) k name once c.loop-name-test.true c.name-item.is
                c.add_there.ensures.others was.1,
          );
      faults = c.add_there.ensures.cause.kept (λ e. c.in_default.not-Err Failed e) ∙ c.loop-name.invariant.faults;
      accounts = c.add_there.ensures.accounts ∙ c.loop-name.invariant.accounts;
      most = c.add_there.ensures.most ∙ c.loop-name.invariant.most;
    }

pub returns-in-Err-clause-looked : goal.returns-in-Err-clause-looked
returns-in-Err-clause-looked g c =
    let before = c.args.self.now in
    let mid = c.loop-name.self in
    let after = c.add_there.new.self in
    looked_then (g.B.Board.disk (board_of before)) (g.B.Board.disk (board_of mid)) (g.B.Board.disk (board_of after))
    (memory_of before) (memory_of mid) (memory_of after)
    c.loop-name.invariant.looked c.add_there.ensures.looked

pub returns-clause-there : goal.returns-clause-there
returns-clause-there g c = λ now told known once held.
    let end : length c.args.own.now ≤ c.loop-name.name-index = omega arith in
    picked_whole (IsThere now) c.args.own.now c.loop-name.there.items c.loop-name.name-index end
    (c.loop-name.invariant.picked now told known once held).0
