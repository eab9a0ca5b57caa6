use Rattle.std.proofs.Common.{◌≡◌, Option, refl, sym, subst}
use Rattle.account_machine.specs.declared.answer.Answer.{Answer}
use Rattle.account_machine.specs.declared.request.Request.TheVariants.{RemoveFactor}
use Rattle.account_machine.specs.declared.request.Turn.TheVariants.{Act}
use Rattle.home_edits.specs.Removals.{RemovesFactor}
use Rattle.share_api.specs.Contents.{Bytes}
use Rattle.user_state.specs.Turns.{IsGiven}
use Rattle.user_state.specs.declared.state.Doubt.{Doubt}
use Rattle.turn_edits.specs.Endings.{IsEditions, IsEnded}
use Rattle.turn_edits.proofs.EditGiven.{edits_at, coherent_at, costs_at}
use Rattle.turn_pins.specs.Endings.{IsPinCaused}
use Rattle.turn_pins.proofs.PinTurns.{pin_edited, pin_ended, pin_caused}
use Rattle.turn_pins.proofs.Removing.{pin_loses, pin_labelled, pin_known, remove_named, remove_owes}
use Rattle.turn_pins.proofs.removal.remove_pin.Goals as goal

-- the stash may lose the block
pub remove_pin-removed-requires-clause-home : goal.remove_pin-removed-requires-clause-home
remove_pin-removed-requires-clause-home g c =
    pin_loses c.args.state.now c.requires.ready c.requires.sound c.args.state.now.account c.args.token.now
    c.args.label.now c.requires.due c.requires.pin

pub remove_pin-removed-requires-clause-label : goal.remove_pin-removed-requires-clause-label
remove_pin-removed-requires-clause-label g c =
    pin_labelled c.args.state.now c.requires.ready c.requires.sound c.args.state.now.account c.args.token.now
    c.args.label.now c.requires.due c.requires.pin

pub remove_pin-removed-requires-clause-known : goal.remove_pin-removed-requires-clause-known
remove_pin-removed-requires-clause-known g c =
    pin_known c.args.state.now c.requires.ready c.requires.sound c.args.state.now.account c.args.token.now
    c.args.label.now c.requires.due c.requires.pin

-- the table's row
pub returns-clause-given : goal.returns-clause-given
returns-clause-given g c = λ account.
    let call = c.remove_pin-removed in
    let before = c.args.state.now in
    let old = g.S.Share.seen c.args.share.now in
    let new = g.S.Share.seen call.new.share in
    subst (λ (pair : Option Doubt × Answer). IsGiven old new before
    (record before { stored = call.new.stored; doubt = pair.0 })
    (Act (RemoveFactor account c.args.token.now c.args.label.now)) pair.1)
    (λ i. (sym c.told.ensures.doubt i, sym c.told.ensures.answer i))
    (pin_edited old new before c.requires.ready c.requires.lost
    (Act (RemoveFactor account c.args.token.now c.args.label.now)) tt c.requires.due
    (remove_named before c.requires.ready c.requires.sound account c.args.token.now c.args.label.now c.requires.due
    c.requires.pin)
    (RemovesFactor c.args.label.now) call.new.stored call.result
    (edits_at c.as_str.ensures.value call.ensures.edits) call.ensures.only call.ensures.calm call.ensures.err
    call.ensures.tree call.ensures.still call.ensures.lost
    (coherent_at c.as_str.ensures.value call.ensures.coherent c.requires.sound.coherent).files
    (λ contents user keys fits holds. remove_owes before c.requires.ready c.requires.sound account c.args.token.now
    c.args.label.now c.requires.due c.requires.pin contents user keys fits holds old.era))

-- what is left fits together
pub returns-clause-sound : goal.returns-clause-sound
returns-clause-sound g c = record {
  coherent = coherent_at c.as_str.ensures.value c.remove_pin-removed.ensures.coherent c.requires.sound.coherent;
  least = c.requires.sound.least;
  most = c.requires.sound.most;
  keyed = c.requires.sound.keyed;
}

-- only a fault leaves a doubt
pub returns-clause-ended : goal.returns-clause-ended
returns-clause-ended g c =
    let call = c.remove_pin-removed in
    subst (λ (pair : Option Doubt × Answer). IsEnded IsEditions c.args.state.now
    (record c.args.state.now { stored = call.new.stored; doubt = pair.0 }) pair.1)
    (λ i. (sym c.told.ensures.doubt i, sym c.told.ensures.answer i))
    (pin_ended IsEditions c.args.state.now call.new.stored call.result tt c.requires.ready.settled call.ensures.only
    call.ensures.err)

-- why it was answered so
pub returns-clause-caused : goal.returns-clause-caused
returns-clause-caused g c =
    let call = c.remove_pin-removed in
    let old = g.S.Share.seen c.args.share.now in
    let new = g.S.Share.seen call.new.share in
    subst (IsPinCaused old new c.args.state.now.stored.lost (new ≡ old) (λ (name : Bytes). ⊥))
    (sym c.told.ensures.answer)
    (pin_caused old new c.args.state.now.account c.args.state.now.stored call.new.stored
    (RemovesFactor c.args.label.now) call.result (edits_at c.as_str.ensures.value call.ensures.edits)
    call.ensures.only call.ensures.calm call.ensures.tree call.ensures.still)

-- no factor's record is put
pub returns-clause-cost : goal.returns-clause-cost
returns-clause-cost g c =
    costs_at (g.S.Share.seen c.args.share.now) (g.S.Share.seen c.remove_pin-removed.new.share)
    c.as_str.ensures.value refl (c.remove_pin-removed.ensures.cost c.args.state.now.cost)
