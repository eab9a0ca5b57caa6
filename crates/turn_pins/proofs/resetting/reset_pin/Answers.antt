use Rattle.std.proofs.Common.{ℕ, List, sym, ap, ◌∙◌, subst, inl, inr, is_some, true≢false, refl}
use Rattle.account_machine.specs.declared.request.Request.TheVariants.{ResetPin}
use Rattle.account_machine.specs.declared.request.Turn.TheVariants.{Act}
use Rattle.pin_edits.specs.Faults.{IsStashFault}
use Rattle.record_names.specs.Names.{factor_name}
use Rattle.stored_home.proofs.MapLemmas.{not_None}
use Rattle.user_state.specs.Sound.{IsSound}
use Rattle.user_state.specs.declared.state.UserState.{UserState}
use Rattle.turn_edits.proofs.EditGiven.{stood_given}
use Rattle.turn_secrets.proofs.Sounds.{sound_doubted}
use Rattle.turn_pins.proofs.LoadedPins.{home_there, label_is, its_tree, leaf_known}
use Rattle.turn_pins.proofs.PinTurns.{lost_given}
use Rattle.turn_pins.proofs.PinsSetBack.{reset_stash, reset_main, reset_named, reset_row, held_given, held_after, stash_stands, stash_says, none_of}
use Rattle.turn_pins.proofs.resetting.reset_pin.Goals as goal

-- the tree is lost
pub returns-in-Some-clause-given : goal.returns-in-Some-clause-given
returns-in-Some-clause-given g c = λ account.
    lost_given c.args.state.now c.requires.ready (Act (ResetPin account c.args.token.now c.args.label.now))
    c.requires.due
    (reset_named c.args.state.now c.requires.ready c.requires.sound account c.args.token.now c.args.label.now
    c.requires.due)
    c.in-Some.tree.host c.in-Some.tree.chip (g.S.Share.seen c.args.share.now)

-- the session has a main key
pub unreachable-requires : goal.unreachable-requires
unreachable-requires g c =
    true≢false (sym (reset_main c.args.state.now c.requires.ready c.requires.sound c.args.state.now.account
    c.args.token.now c.args.label.now c.requires.due)
    ∙ ap is_some (sym c.main_key.ensures ∙ c.in_default-main_key.is))

-- the PIN is loaded
pub prepare-requires-clause-label : goal.prepare-requires-clause-label
prepare-requires-clause-label g c =
    let before = c.args.state.now in
    let stash = reset_stash before c.requires.ready c.requires.sound before.account c.args.token.now c.args.label.now
    c.requires.due in
    let row = reset_row before c.requires.ready c.requires.sound before.account c.args.token.now c.args.label.now
    c.requires.due in
    label_is before c.requires.sound stash.0 stash.1 c.args.label.now row.0 row.1 row.2

pub prepare-requires-clause-home : goal.prepare-requires-clause-home
prepare-requires-clause-home g c =
    let before = c.args.state.now in
    let stash = reset_stash before c.requires.ready c.requires.sound before.account c.args.token.now c.args.label.now
    c.requires.due in
    let row = reset_row before c.requires.ready c.requires.sound before.account c.args.token.now c.args.label.now
    c.requires.due in
    home_there before c.requires.sound stash.0 stash.1 c.args.label.now row.0 row.1 row.2

pub prepare-requires-clause-known : goal.prepare-requires-clause-known
prepare-requires-clause-known g c =
    let before = c.args.state.now in
    let stash = reset_stash before c.requires.ready c.requires.sound before.account c.args.token.now c.args.label.now
    c.requires.due in
    let row = reset_row before c.requires.ready c.requires.sound before.account c.args.token.now c.args.label.now
    c.requires.due in
    leaf_known before c.requires.sound stash.0 stash.1 c.args.label.now row.0 row.1 row.2

-- the leaf was looked at, and reset where it could be seen
pub returns-in-Ok-clause-given : goal.returns-in-Ok-clause-given
returns-in-Ok-clause-given g c = λ account.
    let before = c.args.state.now in
    let stash = reset_stash before c.requires.ready c.requires.sound account c.args.token.now c.args.label.now
    c.requires.due in
    let row = reset_row before c.requires.ready c.requires.sound account c.args.token.now c.args.label.now
    c.requires.due in
    let tree = its_tree before c.requires.sound stash.0 stash.1 c.args.label.now row.0 row.1 row.2 in
    let old = g.S.Share.seen c.args.share.now in
    held_given before c.requires.ready c.requires.sound account c.args.token.now c.args.label.now c.requires.due row.0
    row.1 tree.0 tree.1 c.in_default.is c.in-Some-main_key.main
    (sym c.main_key.ensures ∙ c.in-Some-main_key.is) c.in-Ok.reset c.in-Ok.ensures.value c.in-Ok.ensures.label old
    (g.S.Share.seen c.reset_held.new.share) c.requires.lost
    (none_of old.lost (c.requires.lost ∙ ap is_some c.in_default.is)) c.reset_held.new.state c.reset_held.result
    c.reset_held.ensures.held

pub returns-in-Ok-clause-sound : goal.returns-in-Ok-clause-sound
returns-in-Ok-clause-sound g c =
    let before = c.args.state.now in
    let after = held_after (g.S.Share.seen c.args.share.now) (g.S.Share.seen c.reset_held.new.share) c.in-Ok.reset
    before c.reset_held.new.state c.reset_held.result c.reset_held.ensures.held in
    subst (λ (s : UserState). IsSound s) (sym after.1)
    (sound_doubted before c.requires.sound after.0 before.generator)

-- the stash's payload doesn't open or lacks the reset secret, or there was no memory
pub returns-in-Err-clause-given : goal.returns-in-Err-clause-given
returns-in-Err-clause-given g c = λ account.
    let before = c.args.state.now in
    stood_given before c.requires.ready (Act (ResetPin account c.args.token.now c.args.label.now)) tt before.generator
    c.refused.result
    (stash_stands before.account c.in-Err.fault c.refused.result
    (subst (λ (n : List ℕ). IsStashFault n c.in-Err.fault) c.as_str.ensures.value c.in-Err.ensures.only)
    c.refused.ensures) (g.S.Share.seen c.args.share.now)

-- what was made
pub returns-in-Some-clause-resets : goal.returns-in-Some-clause-resets
returns-in-Some-clause-resets g c = λ none. absurd (not_None c.in-Some.tree (sym c.in-Some.is ∙ none))

pub returns-in-Ok-clause-resets : goal.returns-in-Ok-clause-resets
returns-in-Ok-clause-resets g c = λ none. inr (
  c.in-Ok.reset,
  record {
    main = c.in-Some-main_key.main;
    main_is = sym c.main_key.ensures ∙ c.in-Some-main_key.is;
    label_is = c.in-Ok.ensures.label;
    made = c.in-Ok.ensures.value;
    named = λ row at. c.in-Ok.ensures.named row at
        ∙ ap (λ (n : List ℕ). factor_name n c.args.label.now row.edition) c.as_str.ensures.value;
  },
  c.reset_held.ensures.held,
)

pub returns-in-Err-clause-resets : goal.returns-in-Err-clause-resets
returns-in-Err-clause-resets g c = λ none. inl (
  refl,
  refl,
  stash_says c.args.state.now.account c.in-Err.fault c.refused.result
      (subst (λ (n : List ℕ). IsStashFault n c.in-Err.fault) c.as_str.ensures.value c.in-Err.ensures.only)
      c.refused.ensures,
)
