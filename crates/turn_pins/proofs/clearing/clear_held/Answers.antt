use Rattle.std.proofs.Common.{Option, Ok, Err, None, Some, refl, sym, ap, ◌∙◌, subst, is_some}
use Rattle.share_api.specs.Contents.{Bytes}
use Rattle.std.specs.FinMap.{len}
use Rattle.user_state.specs.Turns.{IsGiven}
use Rattle.account_machine.specs.declared.answer.Answer.{Answer}
use Rattle.account_machine.specs.declared.request.Turn.TheVariants.{Clear}
use Rattle.turn_pins.proofs.LoadedPins.{home_there, its_tree}
use Rattle.turn_pins.proofs.PinsCleared.{pins_stash, clear_main, none_given, fault_given, cleared_given}
use Rattle.turn_pins.proofs.PinsSetBack.{none_of}
use Rattle.turn_pins.proofs.clearing.clear_held.Goals as goal

-- the session has a main key
pub reset_found-requires-clause-main : goal.reset_found-requires-clause-main
reset_found-requires-clause-main g c =
    clear_main c.args.state.now c.requires.ready c.requires.sound c.args.token.now c.requires.due c.requires.whole

-- the home has factors
pub reset_found-requires-clause-home : goal.reset_found-requires-clause-home
reset_found-requires-clause-home g c =
    let before = c.args.state.now in
    let stash = pins_stash before c.requires.sound c.requires.some in
    let row = c.first_loaded.ensures.pin c.in-Ok-Some.label
    (c.in-Ok-Some.is ∙ ap (λ (o : Option Bytes). Ok o) c.in-Ok-Some.field-0-is) in
    home_there before c.requires.sound stash.0 stash.1 c.in-Ok-Some.label row.0 row.1 row.2

-- no PIN has a count
pub returns-in-Ok-None-clause-given : goal.returns-in-Ok-None-clause-given
returns-in-Ok-None-clause-given g c =
    let before = c.args.state.now in
    let stash = pins_stash before c.requires.sound c.requires.some in
    none_given before c.requires.ready c.requires.sound c.args.token.now c.requires.due c.requires.whole stash.0 stash.1
    (g.S.Share.seen c.args.share.now) (g.S.Share.seen c.first_loaded.new.share) (len before.stored.factors) _
    (rw c.in-Ok-None.field-0-is at c.in-Ok-None.ensures.looks)

-- a look has a fault, or there was no memory
pub returns-in-Err-clause-given : goal.returns-in-Err-clause-given
returns-in-Err-clause-given g c =
    let before = c.args.state.now in
    let stash = pins_stash before c.requires.sound c.requires.some in
    fault_given before c.requires.ready c.requires.sound c.args.token.now c.requires.due c.requires.whole stash.0 stash.1
    (g.S.Share.seen c.args.share.now) (g.S.Share.seen c.first_loaded.new.share) (len before.stored.factors) _ _
    c.in-Err.ensures.looks c.in-Err.fault c.in-Err.ensures.only c.refused.result c.refused.ensures

-- a PIN was found with a count
pub returns-in-Ok-Some-clause-given : goal.returns-in-Ok-Some-clause-given
returns-in-Ok-Some-clause-given g c =
    let before = c.args.state.now in
    let old = g.S.Share.seen c.args.share.now in
    let stash = pins_stash before c.requires.sound c.requires.some in
    let row = c.first_loaded.ensures.pin c.in-Ok-Some.label
    (c.in-Ok-Some.is ∙ ap (λ (o : Option Bytes). Ok o) c.in-Ok-Some.field-0-is) in
    let tree = its_tree before c.requires.sound stash.0 stash.1 c.in-Ok-Some.label row.0 row.1 row.2 in
    subst (λ (a : Answer). IsGiven old (g.S.Share.seen c.reset_found.new.share) before c.reset_found.new.state
    (Clear c.args.token.now) a) (sym c.cleared.ensures)
    (cleared_given before c.requires.ready c.requires.sound c.args.token.now c.requires.due c.requires.whole stash.0
    stash.1 old (g.S.Share.seen c.first_loaded.new.share) (len before.stored.factors) c.in-Ok-Some.label row.0 row.1
    tree.0 tree.1 c.requires.lost (none_of old.lost (c.requires.lost ∙ ap is_some c.requires.whole)) _
    (rw c.in-Ok-Some.field-0-is at c.in-Ok-Some.ensures.looks) (g.S.Share.seen c.reset_found.new.share)
    c.reset_found.new.state c.reset_found.result c.reset_found.ensures.resets)

-- what was looked at and reset
pub returns-in-Ok-None-clause-clears : goal.returns-in-Ok-None-clause-clears
returns-in-Ok-None-clause-clears g c = record {
  mid = g.S.Share.seen c.first_loaded.new.share;
  found = Ok None;
  looks = (rw c.in-Ok-None.field-0-is at c.in-Ok-None.ensures.looks);
  only = tt;
  ends = (refl, refl, refl);
}

pub returns-in-Ok-Some-clause-clears : goal.returns-in-Ok-Some-clause-clears
returns-in-Ok-Some-clause-clears g c = record {
  mid = g.S.Share.seen c.first_loaded.new.share;
  found = Ok (Some c.in-Ok-Some.label);
  looks = (rw c.in-Ok-Some.field-0-is at c.in-Ok-Some.ensures.looks);
  only = tt;
  ends = (c.reset_found.result, c.reset_found.ensures.resets, c.cleared.ensures);
}

pub returns-in-Err-clause-clears : goal.returns-in-Err-clause-clears
returns-in-Err-clause-clears g c = record {
  mid = g.S.Share.seen c.first_loaded.new.share;
  found = Err c.in-Err.fault;
  looks = c.in-Err.ensures.looks;
  only = c.in-Err.ensures.only;
  ends = (refl, refl, c.refused.ensures);
}
