use Rattle.std.specs.Prelude.{IfErr}
use Rattle.std.proofs.Common.{ℕ, List, [], Option, refl, sym, ap, ◌∙◌, subst, inr, is_some, true≢false, arith}
use Rattle.account_machine.specs.declared.answer.Answer.TheVariants as answers
use Rattle.account_machine.specs.declared.factor.Kind.TheVariants.{Pin}
use Rattle.account_machine.specs.declared.request.Request.TheVariants.{AddFactor}
use Rattle.account_machine.specs.declared.request.Turn.TheVariants.{Act}
use Rattle.home_edits.proofs.CostLemmas.{costs_none}
use Rattle.pin_edits.specs.Faults.{IsSetFault, TellsLost}
use Rattle.pin_edits.specs.Pins.{SetsPin, EditsPin, ComesToNothing}
use Rattle.share_api.proofs.RunLaws.{runs_none}
use Rattle.stored_home.specs.declared.stored.LostTree.{LostTree}
use Rattle.user_state.specs.Turns.{IsGiven}
use Rattle.user_state.specs.declared.state.Doubt.{Doubt}
use Rattle.turn_edits.proofs.Drawing.{draws_then, draws_wider}
use Rattle.turn_edits.proofs.EditGiven.{coherent_at}
use Rattle.turn_edits.proofs.StandsIn.{stood_turn}
use Rattle.turn_secrets.proofs.Looking.{looks_none}
use Rattle.turn_pins.specs.Endings.{IsPinCaused}
use Rattle.turn_pins.proofs.PinGiven.{set_given}
use Rattle.turn_pins.proofs.PinSetEnds.{Damages, set_caused}
use Rattle.turn_pins.proofs.PinSetting.{add_main, add_takes, add_absent, add_pins, add_owes}
use Rattle.turn_pins.proofs.adding.add_held.Goals as goal

-- the session has a main key
pub unreachable-requires : goal.unreachable-requires
unreachable-requires g c =
    let there = add_main c.args.state.now c.requires.ready c.requires.sound c.args.label.now
    c.args.state.now.account c.args.token.now c.args.secret.now c.args.schedule c.requires.due in
    true≢false (sym there ∙ ap is_some (sym c.main_key.ensures ∙ c.in_default.is))

-- the stash takes the PIN's block
pub add_pin-added-requires-clause-home : goal.add_pin-added-requires-clause-home
add_pin-added-requires-clause-home g c =
    add_takes c.args.state.now c.requires.ready c.requires.sound c.args.label.now c.args.state.now.account
    c.args.token.now c.args.secret.now c.args.schedule c.requires.due c.next_edition-edition.ensures.from
    c.next_edition-edition.ensures.within

pub add_pin-added-requires-clause-absent : goal.add_pin-added-requires-clause-absent
add_pin-added-requires-clause-absent g c =
    add_absent c.args.state.now c.requires.ready c.requires.sound c.args.label.now c.args.state.now.account
    c.args.token.now c.args.secret.now c.args.schedule c.requires.due

-- the table's row
pub returns-clause-given : goal.returns-clause-given
returns-clause-given g c = λ account.
    let call = c.add_pin-added in
    let before = c.args.state.now in
    let old = g.S.Share.seen c.args.share.now in
    let new = g.S.Share.seen call.new.share in
    subst (λ (doubt : Option Doubt). IsGiven old new before
    (record before { generator = c.new_ivs-ivs.new.generator; stored = call.new.stored; doubt = doubt })
    (Act (AddFactor account c.args.token.now c.args.label.now Pin c.args.secret.now c.args.schedule)) c.told.result)
    (sym c.told.ensures.doubt)
    (set_given old old new before c.requires.ready c.requires.lost
    (Act (AddFactor account c.args.token.now c.args.label.now Pin c.args.secret.now c.args.schedule)) tt ⊥ 0
    (λ contents. Unit {0}) (looks_none old ⊥ 0 (λ contents. Unit {0}) (λ e. e) (λ contents. tt))
    (SetsPin c.args.label.now c.in-Ok.pin c.in-Some.main) c.new_ivs-ivs.new.generator call.new.stored
    (λ contents user keys fits holds told. add_owes before c.requires.ready c.requires.sound c.args.label.now account
    c.args.token.now c.args.secret.now c.args.schedule c.requires.due c.in-Ok.pin c.in-Some.main c.in-Ok.ensures.key
    (c.in-Ok.ensures.schedule ∙ c.schedule_of-schedule.ensures) (sym c.main_key.ensures ∙ c.in-Some.is) contents user
    keys fits holds old.era)
    call.result
    (subst (λ (n : List ℕ). EditsPin old new n before.stored call.new.stored call.result
    (SetsPin c.args.label.now c.in-Ok.pin c.in-Some.main)) c.as_str.ensures.value call.ensures.edits)
    call.ensures.lost call.ensures.err
    (subst (λ (o : Option LostTree). TellsLost o call.result) c.requires.whole call.ensures.tree)
    (coherent_at c.as_str.ensures.value
    (call.ensures.coherent (add_pins before c.requires.ready c.requires.sound c.args.label.now before.account
    c.args.token.now c.args.secret.now c.args.schedule c.requires.due)) c.requires.sound.coherent).files
    c.told.result c.told.ensures.answer)

-- there was no memory for the derivation
pub returns-in_default-new_pin-clause-given : goal.returns-in_default-new_pin-clause-given
returns-in_default-new_pin-clause-given g c = λ account.
    stood_turn c.args.state.now c.requires.ready
    (Act (AddFactor account c.args.token.now c.args.label.now Pin c.args.secret.now c.args.schedule)) tt
    c.new_pin.new.generator account answers.NoMemory (inr refl) (g.S.Share.seen c.args.share.now)

-- what is loaded fits together
pub returns-clause-sound : goal.returns-clause-sound
returns-clause-sound g c = record {
  coherent = coherent_at c.as_str.ensures.value
      (c.add_pin-added.ensures.coherent (add_pins c.args.state.now c.requires.ready c.requires.sound c.args.label.now
      c.args.state.now.account c.args.token.now c.args.secret.now c.args.schedule c.requires.due))
      c.requires.sound.coherent;
  least = c.requires.sound.least;
  most = c.requires.sound.most;
  keyed = c.requires.sound.keyed;
}

-- perhaps a salt, two secrets and two IVs
pub returns-clause-fresh : goal.returns-clause-fresh
returns-clause-fresh g c = λ _.
    draws_then 16 20 c.args.state.now.generator c.new_pin.new.generator c.new_ivs-ivs.new.generator 6 (omega arith)
    (c.in-Ok.ensures.fresh refl) c.new_ivs-ivs.ensures

pub returns-clause-draws : goal.returns-clause-draws
returns-clause-draws g c =
    draws_wider 6 26 0 26 c.args.state.now.generator c.new_ivs-ivs.new.generator (omega arith) (omega arith)
    (draws_then 0 20 c.args.state.now.generator c.new_pin.new.generator c.new_ivs-ivs.new.generator 6 (omega arith)
    c.new_pin.ensures.draws c.new_ivs-ivs.ensures)

-- nothing was put
pub returns-in_default-new_pin-clause-cost : goal.returns-in_default-new_pin-clause-cost
returns-in_default-new_pin-clause-cost g c =
    costs_none (g.S.Share.seen c.args.share.now) c.args.state.now.account c.args.state.now.cost

-- why it was answered so
pub returns-clause-caused : goal.returns-clause-caused
returns-clause-caused g c =
    let call = c.add_pin-added in
    let before = c.args.state.now in
    let old = g.S.Share.seen c.args.share.now in
    let new = g.S.Share.seen call.new.share in
    subst (λ (o : Option LostTree). IsPinCaused old new o (ComesToNothing old new)
    (Damages old new before.account (ComesToNothing old new)) c.told.result) (sym c.requires.whole)
    (set_caused old new before.account (ComesToNothing old new) old [] (runs_none old) (λ has. has) before.stored
    call.new.stored (SetsPin c.args.label.now c.in-Ok.pin c.in-Some.main) call.result
    (subst (λ (n : List ℕ). EditsPin old new n before.stored call.new.stored call.result
    (SetsPin c.args.label.now c.in-Ok.pin c.in-Some.main)) c.as_str.ensures.value call.ensures.edits)
    (subst (λ (n : List ℕ). IfErr call.result (IsSetFault n)) c.as_str.ensures.value
    call.ensures.only)
    call.ensures.calm
    (subst (λ (o : Option LostTree). TellsLost o call.result) c.requires.whole call.ensures.tree)
    c.told.result c.told.ensures.answer)
