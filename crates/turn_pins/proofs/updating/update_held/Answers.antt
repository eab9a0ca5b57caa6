use Rattle.std.proofs.Common.{ℕ, List, [], Option, refl, sym, ap, ◌∙◌, subst, inl, is_some, true≢false, arith}
use Rattle.std.specs.Prelude.{IfErr}
use Rattle.account_machine.specs.declared.request.Request.TheVariants.{UpdateFactor}
use Rattle.account_machine.specs.declared.request.Turn.TheVariants.{Act}
use Rattle.home_edits.proofs.CostLemmas.{costs_none}
use Rattle.pin_edits.specs.Faults.{IsSetFault, TellsLost}
use Rattle.pin_edits.specs.Pins.{SetsPin, EditsPin}
use Rattle.share_api.proofs.RunLaws.{runs_none}
use Rattle.stored_home.specs.declared.stored.LostTree.{LostTree}
use Rattle.user_state.specs.Turns.{IsGiven}
use Rattle.user_state.specs.declared.state.Doubt.{Doubt}
use Rattle.turn_edits.proofs.Drawing.{draws_then, draws_wider}
use Rattle.turn_edits.proofs.EditGiven.{coherent_at, costs_at}
use Rattle.turn_edits.proofs.EndingLemmas.{made_failed}
use Rattle.turn_pins.specs.Endings.{IsPinCaused}
use Rattle.turn_pins.specs.Setting.{OnlyReads, IsRenewFault}
use Rattle.turn_pins.proofs.LoadedPins.{leaf_known}
use Rattle.turn_pins.proofs.PinGiven.{set_given, looked_refused}
use Rattle.turn_pins.proofs.PinSetEnds.{Damages, set_caused, refusal_caused, read_then_costs, only_reads}
use Rattle.turn_pins.proofs.PinSetting.{update_stash, update_row, update_kind, update_main, update_takes, update_labelled, update_owes}
use Rattle.turn_pins.proofs.updating.update_held.Goals as goal

-- the session has a main key
pub unreachable-requires : goal.unreachable-requires
unreachable-requires g c =
    let there = update_main c.args.state.now c.requires.ready c.requires.sound c.args.label.now
    c.args.state.now.account c.args.token.now c.args.secret.now c.requires.due c.requires.pin in
    true≢false (sym there ∙ ap is_some (sym c.main_key.ensures ∙ c.in_default.is))

-- the PIN's record names a leaf
pub leaf_of-tree-requires : goal.leaf_of-tree-requires
leaf_of-tree-requires g c =
    let before = c.args.state.now in
    let stash = update_stash before c.requires.ready c.requires.sound c.args.label.now before.account c.args.token.now
    c.args.secret.now c.requires.due c.requires.pin in
    let row = update_row before c.requires.ready c.requires.sound c.args.label.now before.account c.args.token.now
    c.args.secret.now c.requires.due c.requires.pin in
    record {
      known = leaf_known before c.requires.sound stash.0 stash.1 c.args.label.now row.0 row.1
          (update_kind before c.requires.ready c.requires.sound c.args.label.now before.account c.args.token.now
          c.args.secret.now c.requires.due c.requires.pin);
    }

pub update_pin-updated-requires-clause-known : goal.update_pin-updated-requires-clause-known
update_pin-updated-requires-clause-known g c =
    let before = c.args.state.now in
    let stash = update_stash before c.requires.ready c.requires.sound c.args.label.now before.account c.args.token.now
    c.args.secret.now c.requires.due c.requires.pin in
    let row = update_row before c.requires.ready c.requires.sound c.args.label.now before.account c.args.token.now
    c.args.secret.now c.requires.due c.requires.pin in
    leaf_known before c.requires.sound stash.0 stash.1 c.args.label.now row.0 row.1
    (update_kind before c.requires.ready c.requires.sound c.args.label.now before.account c.args.token.now
    c.args.secret.now c.requires.due c.requires.pin)

-- the stash takes the PIN's new block
pub update_pin-updated-requires-clause-home : goal.update_pin-updated-requires-clause-home
update_pin-updated-requires-clause-home g c =
    update_takes c.args.state.now c.requires.ready c.requires.sound c.args.label.now c.args.state.now.account
    c.args.token.now c.args.secret.now c.requires.due c.requires.pin c.next_edition-edition.ensures.from
    c.next_edition-edition.ensures.within

pub update_pin-updated-requires-clause-label : goal.update_pin-updated-requires-clause-label
update_pin-updated-requires-clause-label g c =
    update_labelled c.args.state.now c.requires.ready c.requires.sound c.args.label.now c.args.state.now.account
    c.args.token.now c.args.secret.now c.requires.due c.requires.pin

-- the table's row
pub returns-in-Ok-clause-given : goal.returns-in-Ok-clause-given
returns-in-Ok-clause-given g c = λ account.
    let call = c.update_pin-updated in
    let before = c.args.state.now in
    let old = g.S.Share.seen c.args.share.now in
    let mid = g.S.Share.seen c.renewed.new.share in
    let new = g.S.Share.seen call.new.share in
    let row = update_row before c.requires.ready c.requires.sound c.args.label.now account c.args.token.now
    c.args.secret.now c.requires.due c.requires.pin in
    subst (λ (doubt : Option Doubt). IsGiven old new before
    (record before { generator = c.new_ivs-ivs.new.generator; stored = call.new.stored; doubt = doubt })
    (Act (UpdateFactor account c.args.token.now c.args.label.now c.args.secret.now)) c.told.result)
    (sym c.told.ensures.doubt)
    (set_given old mid new before c.requires.ready c.requires.lost
    (Act (UpdateFactor account c.args.token.now c.args.label.now c.args.secret.now)) tt _ 1 _ c.in-Ok.ensures.looks
    (SetsPin c.args.label.now c.in-Ok.pin c.in-Some.main) c.new_ivs-ivs.new.generator call.new.stored
    (λ contents user keys fits holds told. update_owes before c.requires.ready c.requires.sound c.args.label.now account
    c.args.token.now c.args.secret.now c.requires.due c.requires.pin c.requires.whole c.leaf_of-tree.result
    (c.leaf_of-tree.ensures.value row.0 row.1) told.0 c.in-Ok.pin c.in-Some.main c.in-Ok.ensures.key told.2
    (sym c.main_key.ensures ∙ c.in-Some.is) contents user keys fits holds told.1 old.era)
    call.result
    (subst (λ (n : List ℕ). EditsPin mid new n before.stored call.new.stored call.result
    (SetsPin c.args.label.now c.in-Ok.pin c.in-Some.main)) c.as_str-in-Ok.ensures.value call.ensures.edits)
    call.ensures.lost call.ensures.err
    (subst (λ (o : Option LostTree). TellsLost o call.result) c.requires.whole call.ensures.tree)
    (coherent_at c.as_str-in-Ok.ensures.value call.ensures.coherent c.requires.sound.coherent).files
    c.told.result c.told.ensures.answer)

-- no PIN was made
pub returns-in-Err-clause-given : goal.returns-in-Err-clause-given
returns-in-Err-clause-given g c = λ account.
    looked_refused (g.S.Share.seen c.args.share.now) (g.S.Share.seen c.renewed.new.share) c.args.state.now
    c.requires.ready (Act (UpdateFactor account c.args.token.now c.args.label.now c.args.secret.now)) tt _ 1 _
    c.in-Err.ensures.looks c.renewed.new.generator c.as_str.result.now c.leaf_of-tree.result c.in-Err.fault
    c.in-Err.ensures.only c.refused.result c.refused.ensures

-- what is loaded fits together
pub returns-in-Ok-clause-sound : goal.returns-in-Ok-clause-sound
returns-in-Ok-clause-sound g c = record {
  coherent = coherent_at c.as_str-in-Ok.ensures.value c.update_pin-updated.ensures.coherent c.requires.sound.coherent;
  least = c.requires.sound.least;
  most = c.requires.sound.most;
  keyed = c.requires.sound.keyed;
}

-- perhaps a salt, two secrets and two IVs
pub returns-in-Ok-clause-fresh : goal.returns-in-Ok-clause-fresh
returns-in-Ok-clause-fresh g c = λ _.
    draws_then 16 20 c.args.state.now.generator c.renewed.new.generator c.new_ivs-ivs.new.generator 6 (omega arith)
    (c.in-Ok.ensures.fresh refl) c.new_ivs-ivs.ensures

pub returns-in-Ok-clause-draws : goal.returns-in-Ok-clause-draws
returns-in-Ok-clause-draws g c =
    draws_wider 6 26 0 26 c.args.state.now.generator c.new_ivs-ivs.new.generator (omega arith) (omega arith)
    (draws_then 0 20 c.args.state.now.generator c.renewed.new.generator c.new_ivs-ivs.new.generator 6 (omega arith)
    c.renewed.ensures.draws c.new_ivs-ivs.ensures)

-- the record's cost is the state's
pub returns-in-Ok-clause-cost : goal.returns-in-Ok-clause-cost
returns-in-Ok-clause-cost g c =
    let call = c.update_pin-updated in
    let old = g.S.Share.seen c.args.share.now in
    let mid = g.S.Share.seen c.renewed.new.share in
    let new = g.S.Share.seen call.new.share in
    read_then_costs old mid new c.args.state.now.account c.args.state.now.cost c.in-Ok.ensures.looks.steps
    call.ensures.edits.edits.steps c.in-Ok.ensures.looks.runs c.in-Ok.ensures.looks.reads
    call.ensures.edits.edits.runs
    (costs_at mid new c.as_str-in-Ok.ensures.value c.in-Ok.ensures.cost call.ensures.cost)

pub returns-in-Err-clause-cost : goal.returns-in-Err-clause-cost
returns-in-Err-clause-cost g c =
    let old = g.S.Share.seen c.args.share.now in
    let mid = g.S.Share.seen c.renewed.new.share in
    read_then_costs old mid mid c.args.state.now.account c.args.state.now.cost c.in-Err.ensures.looks.steps []
    c.in-Err.ensures.looks.runs c.in-Err.ensures.looks.reads (runs_none mid)
    (costs_none mid c.args.state.now.account c.args.state.now.cost)

-- why it was answered so
pub returns-in-Ok-clause-caused : goal.returns-in-Ok-clause-caused
returns-in-Ok-clause-caused g c =
    let call = c.update_pin-updated in
    let before = c.args.state.now in
    let old = g.S.Share.seen c.args.share.now in
    let mid = g.S.Share.seen c.renewed.new.share in
    let new = g.S.Share.seen call.new.share in
    let looks = c.in-Ok.ensures.looks in
    subst (λ (o : Option LostTree). IsPinCaused old new o (OnlyReads old new)
    (Damages old new before.account (OnlyReads old new)) c.told.result) (sym c.requires.whole)
    (set_caused old new before.account (OnlyReads old new) mid looks.steps looks.runs
    (λ has. c.in-Ok.ensures.quiet refl (made_failed old mid looks.steps looks.runs has)) before.stored
    call.new.stored (SetsPin c.args.label.now c.in-Ok.pin c.in-Some.main) call.result
    (subst (λ (n : List ℕ). EditsPin mid new n before.stored call.new.stored call.result
    (SetsPin c.args.label.now c.in-Ok.pin c.in-Some.main)) c.as_str-in-Ok.ensures.value call.ensures.edits)
    (subst (λ (n : List ℕ). IfErr call.result (IsSetFault n)) c.as_str-in-Ok.ensures.value call.ensures.only)
    (λ is_err not. only_reads old mid new looks.steps looks.runs looks.reads (call.ensures.calm is_err not))
    (subst (λ (o : Option LostTree). TellsLost o call.result) c.requires.whole call.ensures.tree)
    c.told.result c.told.ensures.answer)

pub returns-in-Err-clause-caused : goal.returns-in-Err-clause-caused
returns-in-Err-clause-caused g c =
    let before = c.args.state.now in
    let old = g.S.Share.seen c.args.share.now in
    let mid = g.S.Share.seen c.renewed.new.share in
    let looks = c.in-Err.ensures.looks in
    subst (λ (o : Option LostTree). IsPinCaused old mid o (OnlyReads old mid)
    (Damages old mid before.account (OnlyReads old mid)) c.refused.result) (sym c.requires.whole)
    (refusal_caused old mid before.account (OnlyReads old mid)
    (only_reads old mid mid looks.steps looks.runs looks.reads (inl refl)) c.leaf_of-tree.result c.in-Err.fault
    (subst (λ (n : List ℕ). IsRenewFault n c.leaf_of-tree.result c.in-Err.fault) c.as_str.ensures.value
    c.in-Err.ensures.only)
    c.refused.result c.refused.ensures)

-- the share is the same account's
pub returns-in-Ok-clause-goes : goal.returns-in-Ok-clause-goes
returns-in-Ok-clause-goes g c =
    g.met.S.Share.goes_on c.args.share.now c.renewed.new.share c.update_pin-updated.new.share c.renewed.ensures.goes
    c.update_pin-updated.ensures.goes
