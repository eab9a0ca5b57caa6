use Rattle.std.proofs.Common.{Option, refl, sym, ap, ◌∙◌, subst, is_some, inl, inr, ℕ}
use Rattle.account_machine.specs.declared.request.Request.TheVariants.{Authenticate}
use Rattle.account_machine.specs.declared.request.Turn.TheVariants.{Act}
use Rattle.stored_home.specs.declared.stored.LostTree.{LostTree}
use Rattle.turn_rows.proofs.Quiet.{starved_given}
use Rattle.stored_home.proofs.MapLemmas.{not_None}
use Rattle.turn_pins.specs.Endings.{TellsTree}
use Rattle.turn_pins.specs.Trying.{TryHeld}
use Rattle.turn_pins.proofs.LoadedPins.{label_is, block_both, row_known}
use Rattle.turn_pins.proofs.PinEnds.{held_sound, held_kept}
use Rattle.turn_pins.proofs.PinTurns.{lost_given}
use Rattle.turn_pins.proofs.PinsSetBack.{none_of}
use Rattle.turn_pins.proofs.PinTrials.{try_stash, try_row, try_named}
use Rattle.turn_pins.proofs.PinTurned.{tried_given}
use Rattle.turn_pins.proofs.trying.authenticate_pin.Goals as goal

-- the tree is lost
pub returns-in-Some-clause-given : goal.returns-in-Some-clause-given
returns-in-Some-clause-given g c = λ account.
    lost_given c.args.state.now c.requires.ready
    (Act (Authenticate account c.args.token.now c.args.label.now c.args.secret.now)) c.requires.due
    (try_named c.args.state.now c.requires.ready c.requires.sound account c.args.token.now c.args.label.now
    c.args.secret.now c.requires.due c.requires.pin)
    c.in-Some.tree.host c.in-Some.tree.chip (g.S.Share.seen c.args.share.now)

-- the PIN is loaded
pub prepare-requires-clause-label : goal.prepare-requires-clause-label
prepare-requires-clause-label g c =
    let before = c.args.state.now in
    let stash = try_stash before c.requires.ready c.requires.sound before.account c.args.token.now c.args.label.now
    c.args.secret.now c.requires.due c.requires.pin in
    let row = try_row before c.requires.ready c.requires.sound before.account c.args.token.now c.args.label.now
    c.args.secret.now c.requires.due c.requires.pin in
    label_is before c.requires.sound stash.0 stash.1 c.args.label.now row.0 row.1 row.2

pub prepare-requires-clause-both : goal.prepare-requires-clause-both
prepare-requires-clause-both g c =
    let before = c.args.state.now in
    let stash = try_stash before c.requires.ready c.requires.sound before.account c.args.token.now c.args.label.now
    c.args.secret.now c.requires.due c.requires.pin in
    let row = try_row before c.requires.ready c.requires.sound before.account c.args.token.now c.args.label.now
    c.args.secret.now c.requires.due c.requires.pin in
    block_both before c.requires.sound stash.0 stash.1 c.args.label.now row.0 row.1 row.2

pub prepare-requires-clause-known : goal.prepare-requires-clause-known
prepare-requires-clause-known g c =
    let before = c.args.state.now in
    let stash = try_stash before c.requires.ready c.requires.sound before.account c.args.token.now c.args.label.now
    c.args.secret.now c.requires.due c.requires.pin in
    let row = try_row before c.requires.ready c.requires.sound before.account c.args.token.now c.args.label.now
    c.args.secret.now c.requires.due c.requires.pin in
    row_known before c.requires.sound stash.0 stash.1 c.args.label.now row.0 row.1 row.2

-- the leaf was looked at, and tried where it could be seen
pub returns-in-Ok-clause-given : goal.returns-in-Ok-clause-given
returns-in-Ok-clause-given g c = λ account.
    let before = c.args.state.now in
    let stash = try_stash before c.requires.ready c.requires.sound account c.args.token.now c.args.label.now
    c.args.secret.now c.requires.due c.requires.pin in
    let row = try_row before c.requires.ready c.requires.sound account c.args.token.now c.args.label.now
    c.args.secret.now c.requires.due c.requires.pin in
    let old = g.S.Share.seen c.args.share.now in
    tried_given before c.requires.ready c.requires.sound account c.args.token.now c.args.label.now c.args.secret.now
    c.requires.due c.requires.pin row.0 row.1 c.in-Ok.trial.tree (c.in-Ok.ensures.trial.leaf row.0 row.1)
    c.in_default.is c.in-Some-place.at c.in-Some-place.ensures.some.0 c.in-Some-place.ensures.some.1 c.in-Ok.trial
    c.in-Ok.ensures.trial refl old (g.S.Share.seen c.try_held.new.share) c.requires.lost
    (none_of old.lost (c.requires.lost ∙ ap is_some c.in_default.is)) c.try_held.new.state c.try_held.result
    c.try_held.ensures.held

pub returns-in-Ok-clause-sound : goal.returns-in-Ok-clause-sound
returns-in-Ok-clause-sound g c =
    held_sound c.args.state.now c.requires.sound (g.S.Share.seen c.args.share.now)
    (g.S.Share.seen c.try_held.new.share) c.in-Ok.trial c.in-Some-place.at c.try_held.new.state c.try_held.result
    c.try_held.ensures.held

pub returns-in-Ok-clause-keeps : goal.returns-in-Ok-clause-keeps
returns-in-Ok-clause-keeps g c =
    let old = g.S.Share.seen c.args.share.now in
    (held_kept c.args.label.now c.args.state.now c.requires.ready.settled c.in_default.is old
    (g.S.Share.seen c.try_held.new.share) c.in-Ok.trial c.in-Ok.ensures.trial.label_is c.in-Some-place.at
    (none_of old.lost (c.requires.lost ∙ ap is_some c.in_default.is)) c.try_held.new.state c.try_held.result
    c.try_held.ensures.held).keeps

pub returns-in-Ok-clause-ended : goal.returns-in-Ok-clause-ended
returns-in-Ok-clause-ended g c =
    let old = g.S.Share.seen c.args.share.now in
    (held_kept c.args.label.now c.args.state.now c.requires.ready.settled c.in_default.is old
    (g.S.Share.seen c.try_held.new.share) c.in-Ok.trial c.in-Ok.ensures.trial.label_is c.in-Some-place.at
    (none_of old.lost (c.requires.lost ∙ ap is_some c.in_default.is)) c.try_held.new.state c.try_held.result
    c.try_held.ensures.held).ended

pub returns-in-Ok-clause-tellable : goal.returns-in-Ok-clause-tellable
returns-in-Ok-clause-tellable g c =
    let old = g.S.Share.seen c.args.share.now in
    (held_kept c.args.label.now c.args.state.now c.requires.ready.settled c.in_default.is old
    (g.S.Share.seen c.try_held.new.share) c.in-Ok.trial c.in-Ok.ensures.trial.label_is c.in-Some-place.at
    (none_of old.lost (c.requires.lost ∙ ap is_some c.in_default.is)) c.try_held.new.state c.try_held.result
    c.try_held.ensures.held).tellable

pub returns-in-Ok-clause-generator : goal.returns-in-Ok-clause-generator
returns-in-Ok-clause-generator g c =
    let old = g.S.Share.seen c.args.share.now in
    (held_kept c.args.label.now c.args.state.now c.requires.ready.settled c.in_default.is old
    (g.S.Share.seen c.try_held.new.share) c.in-Ok.trial c.in-Ok.ensures.trial.label_is c.in-Some-place.at
    (none_of old.lost (c.requires.lost ∙ ap is_some c.in_default.is)) c.try_held.new.state c.try_held.result
    c.try_held.ensures.held).generator

pub returns-in-Ok-clause-stored : goal.returns-in-Ok-clause-stored
returns-in-Ok-clause-stored g c =
    let old = g.S.Share.seen c.args.share.now in
    (held_kept c.args.label.now c.args.state.now c.requires.ready.settled c.in_default.is old
    (g.S.Share.seen c.try_held.new.share) c.in-Ok.trial c.in-Ok.ensures.trial.label_is c.in-Some-place.at
    (none_of old.lost (c.requires.lost ∙ ap is_some c.in_default.is)) c.try_held.new.state c.try_held.result
    c.try_held.ensures.held).stored

pub returns-in-Ok-clause-tree : goal.returns-in-Ok-clause-tree
returns-in-Ok-clause-tree g c =
    let old = g.S.Share.seen c.args.share.now in
    subst (λ (o : Option LostTree). TellsTree o c.try_held.result) (sym c.in_default.is)
    (held_kept c.args.label.now c.args.state.now c.requires.ready.settled c.in_default.is old
    (g.S.Share.seen c.try_held.new.share) c.in-Ok.trial c.in-Ok.ensures.trial.label_is c.in-Some-place.at
    (none_of old.lost (c.requires.lost ∙ ap is_some c.in_default.is)) c.try_held.new.state c.try_held.result
    c.try_held.ensures.held).tree

-- there was no memory
pub returns-in-Err-clause-given : goal.returns-in-Err-clause-given
returns-in-Err-clause-given g c = λ account.
    starved_given c.args.state.now c.requires.ready
    (Act (Authenticate account c.args.token.now c.args.label.now c.args.secret.now)) tt
    (g.S.Share.seen c.args.share.now)

-- what was made
pub returns-in-Some-clause-tries : goal.returns-in-Some-clause-tries
returns-in-Some-clause-tries g c = λ none. absurd (not_None c.in-Some.tree (sym c.in-Some.is ∙ none))

pub returns-in-Ok-clause-tries : goal.returns-in-Ok-clause-tries
returns-in-Ok-clause-tries g c = λ none. inr (
  c.in-Ok.trial,
  c.in-Ok.ensures.trial,
  subst (λ (p : ℕ). TryHeld (g.S.Share.seen c.args.share.now) (g.S.Share.seen c.try_held.new.share) c.in-Ok.trial p
      c.args.state.now c.try_held.new.state c.try_held.result) c.in-Some-place.ensures.some.0 c.try_held.ensures.held,
)

pub returns-in-Err-clause-tries : goal.returns-in-Err-clause-tries
returns-in-Err-clause-tries g c = λ none. inl (refl, refl, refl)
