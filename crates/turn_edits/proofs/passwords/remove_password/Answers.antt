use Rattle.std.proofs.Common.{Option, refl, sym, subst}
use Rattle.account_machine.specs.declared.answer.Answer.{Answer}
use Rattle.account_machine.specs.declared.request.Request.TheVariants.{RemoveFactor}
use Rattle.account_machine.specs.declared.request.Turn.TheVariants.{Act}
use Rattle.home_edits.specs.Removals.{RemovesFactor}
use Rattle.user_state.specs.Turns.{IsGiven}
use Rattle.user_state.specs.declared.state.Doubt.{Doubt}
use Rattle.user_state.specs.declared.state.Doubt.TheVariants.{Editions}
use Rattle.turn_edits.specs.Endings.{IsEditions, IsEnded, IsCaused}
use Rattle.turn_edits.proofs.Drawing.{draws_none}
use Rattle.turn_edits.proofs.EditGiven.{editions_given, edits_at, coherent_at, costs_at}
use Rattle.turn_edits.proofs.EndingLemmas.{ended_by, caused_by}
use Rattle.turn_edits.proofs.Removing.{keeps_password, loses, labelled, known, remove_owes}
use Rattle.turn_edits.proofs.passwords.remove_password.Goals as goal

-- the stash may lose the block
pub remove_password-removed-requires-clause-home : goal.remove_password-removed-requires-clause-home
remove_password-removed-requires-clause-home g c =
    loses c.args.state.now c.requires.ready c.requires.sound c.args.state.now.account c.args.token.now c.args.label.now
    c.requires.due c.requires.password

pub remove_password-removed-requires-clause-label : goal.remove_password-removed-requires-clause-label
remove_password-removed-requires-clause-label g c =
    labelled c.args.state.now c.requires.ready c.requires.sound c.args.state.now.account c.args.token.now
    c.args.label.now c.requires.due c.requires.password

pub remove_password-removed-requires-clause-known : goal.remove_password-removed-requires-clause-known
remove_password-removed-requires-clause-known g c =
    known c.args.state.now c.requires.ready c.requires.sound c.args.state.now.account c.args.token.now c.args.label.now
    c.requires.due c.requires.password

-- the table's row
pub returns-clause-given : goal.returns-clause-given
returns-clause-given g c = λ account.
    let call = c.remove_password-removed in
    let before = c.args.state.now in
    let old = g.S.Share.seen c.args.share.now in
    let new = g.S.Share.seen call.new.share in
    let left = keeps_password before c.requires.ready c.requires.sound account c.args.token.now c.args.label.now
    c.requires.due c.requires.password in
    subst (λ (pair : Option Doubt × Answer). IsGiven old new before
    (record before { stored = call.new.stored; doubt = pair.0 })
    (Act (RemoveFactor account c.args.token.now c.args.label.now)) pair.1)
    (λ i. (sym c.told.ensures.doubt i, sym c.told.ensures.answer i))
    (editions_given old new before c.requires.ready c.requires.lost
    (Act (RemoveFactor account c.args.token.now c.args.label.now)) tt (RemovesFactor c.args.label.now) before.generator
    call.new.stored call.result (edits_at c.as_str.ensures.value call.ensures.edits) call.ensures.only
    call.ensures.calm call.ensures.err call.ensures.lost
    (coherent_at c.as_str.ensures.value (call.ensures.coherent left) c.requires.sound.coherent).files
    (λ contents user keys fits holds. remove_owes before c.requires.ready c.requires.sound account c.args.token.now
    c.args.label.now c.requires.due c.requires.password contents user keys fits holds old.era))

-- what is left fits together
pub returns-clause-sound : goal.returns-clause-sound
returns-clause-sound g c = record {
  coherent = coherent_at c.as_str.ensures.value (c.remove_password-removed.ensures.coherent
      (keeps_password c.args.state.now c.requires.ready c.requires.sound c.args.state.now.account c.args.token.now
      c.args.label.now c.requires.due c.requires.password)) c.requires.sound.coherent;
  least = c.requires.sound.least;
  most = c.requires.sound.most;
  keyed = c.requires.sound.keyed;
}

-- only a fault leaves a doubt
pub returns-clause-ended : goal.returns-clause-ended
returns-clause-ended g c =
    let call = c.remove_password-removed in
    subst (λ (pair : Option Doubt × Answer). IsEnded IsEditions c.args.state.now
    (record c.args.state.now { stored = call.new.stored; doubt = pair.0 }) pair.1)
    (λ i. (sym c.told.ensures.doubt i, sym c.told.ensures.answer i))
    (ended_by IsEditions c.args.state.now c.args.state.now.generator c.args.state.now.sessions call.new.stored
    Editions call.result tt c.requires.ready.settled call.ensures.only call.ensures.err)

-- why it was answered so
pub returns-clause-caused : goal.returns-clause-caused
returns-clause-caused g c =
    let call = c.remove_password-removed in
    let old = g.S.Share.seen c.args.share.now in
    let new = g.S.Share.seen call.new.share in
    subst (IsCaused old new c.args.state.now.account ⊥) (sym c.told.ensures.answer)
    (caused_by old new c.args.state.now.account ⊥ c.args.state.now.stored call.new.stored
    (RemovesFactor c.args.label.now) call.result (edits_at c.as_str.ensures.value call.ensures.edits)
    call.ensures.only call.ensures.calm)

-- no word was drawn
pub returns-clause-draws : goal.returns-clause-draws
returns-clause-draws g c = draws_none c.args.state.now.generator 0

-- no factor's record is put
pub returns-clause-cost : goal.returns-clause-cost
returns-clause-cost g c =
    costs_at (g.S.Share.seen c.args.share.now) (g.S.Share.seen c.remove_password-removed.new.share)
    c.as_str.ensures.value refl (c.remove_password-removed.ensures.cost c.args.state.now.cost)
