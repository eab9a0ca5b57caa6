use Rattle.std.proofs.Common.{◌≤◌, ℕ, Option, None, refl, sym, ap, ◌∙◌, subst, inr, is_some, true≢false, arith}
use Rattle.account_machine.specs.declared.answer.Answer.{Answer}
use Rattle.account_machine.specs.declared.answer.Answer.TheVariants as answers
use Rattle.account_machine.specs.declared.factor.Kind.TheVariants.{Password}
use Rattle.account_machine.specs.declared.request.Request.TheVariants.{AddFactor}
use Rattle.account_machine.specs.declared.request.Turn.TheVariants.{Act}
use Rattle.home_edits.specs.Passwords.{SetsPassword}
use Rattle.home_edits.proofs.CostLemmas.{costs_none}
use Rattle.user_state.specs.Outlines.{next_in}
use Rattle.user_state.specs.Turns.{IsGiven}
use Rattle.user_state.specs.declared.state.Doubt.{Doubt}
use Rattle.user_state.specs.declared.state.Doubt.TheVariants.{Editions}
use Rattle.turn_edits.specs.Endings.{IsEditions, IsEnded, IsCaused, Draws}
use Rattle.turn_edits.proofs.Drawing.{draws_then, draws_wider}
use Rattle.turn_edits.proofs.EditGiven.{editions_given, edits_at, coherent_at, costs_at}
use Rattle.turn_edits.proofs.EndingLemmas.{ended_by, caused_by}
use Rattle.turn_edits.proofs.StandsIn.{not_tried, stood_turn, stood_ended, starved_caused}
use Rattle.turn_edits.proofs.Setting.{add_main, add_stash, add_below, add_takes, add_absent, add_owes}
use Rattle.turn_edits.proofs.adding.add_further.Goals as goal

-- the session has a main key
pub unreachable-requires : goal.unreachable-requires
unreachable-requires g c =
    let there = add_main c.args.state.now c.requires.ready c.requires.sound c.args.label.now
    c.args.state.now.account c.args.token.now
    c.args.secret.now None c.requires.due c.requires.home in
    true≢false (sym there ∙ ap is_some (sym c.main_key.ensures ∙ c.in_default.is))

pub add_password-added-requires-clause-home : goal.add_password-added-requires-clause-home
add_password-added-requires-clause-home g c =
    add_takes c.args.state.now c.requires.ready c.requires.sound c.args.label.now c.args.state.now.account
    c.args.token.now
    c.args.secret.now None c.requires.due c.requires.home c.next_edition-edition.ensures.from
    c.next_edition-edition.ensures.within

pub add_password-added-requires-clause-absent : goal.add_password-added-requires-clause-absent
add_password-added-requires-clause-absent g c =
    add_absent c.args.state.now c.requires.ready c.requires.sound c.args.label.now c.args.state.now.account
    c.args.token.now
    c.args.secret.now None c.requires.due

pub add_password-added-requires-clause-least : goal.add_password-added-requires-clause-least
add_password-added-requires-clause-least g c =
    subst (λ (n : ℕ). 1 ≤ n) (sym c.in-Ok.ensures.cost) c.requires.sound.least

pub add_password-added-requires-clause-most : goal.add_password-added-requires-clause-most
add_password-added-requires-clause-most g c =
    subst (λ (n : ℕ). n ≤ 16) (sym c.in-Ok.ensures.cost) c.requires.sound.most

-- the table's row
pub returns-clause-given : goal.returns-clause-given
returns-clause-given g c = λ account schedule.
    let call = c.add_password-added in
    let before = c.args.state.now in
    let old = g.S.Share.seen c.args.share.now in
    let new = g.S.Share.seen call.new.share in
    subst (λ (pair : Option Doubt × Answer). IsGiven old new before
    (record before { generator = c.iv-iv.new.self; stored = call.new.stored; doubt = pair.0 })
    (Act (AddFactor account c.args.token.now c.args.label.now Password c.args.secret.now schedule)) pair.1)
    (λ i. (sym c.told.ensures.doubt i, sym c.told.ensures.answer i))
    (editions_given old new before c.requires.ready c.requires.lost
    (Act (AddFactor account c.args.token.now c.args.label.now Password c.args.secret.now schedule)) tt
    (SetsPassword c.args.label.now c.in-Ok.derived c.in-Some.main) c.iv-iv.new.self call.new.stored call.result
    (edits_at c.as_str.ensures.value call.ensures.edits) call.ensures.only call.ensures.calm call.ensures.err
    call.ensures.lost
    (coherent_at c.as_str.ensures.value call.ensures.coherent c.requires.sound.coherent).files
    (λ contents user keys fits holds. add_owes c.args.state.now c.requires.ready c.requires.sound c.args.label.now
    account c.args.token.now
    c.args.secret.now schedule c.requires.due c.requires.home c.in-Ok.derived c.in-Some.main c.in-Ok.ensures.key
    (sym c.main_key.ensures ∙ c.in-Some.is) contents user keys fits holds old.era))

-- there was no memory for the derivation
pub returns-in_default-derived_key-clause-given : goal.returns-in_default-derived_key-clause-given
returns-in_default-derived_key-clause-given g c = λ account schedule.
    stood_turn c.args.state.now c.requires.ready
    (Act (AddFactor account c.args.token.now c.args.label.now Password c.args.secret.now schedule)) tt
    c.derived_key.new.generator account answers.NoMemory (inr refl) (g.S.Share.seen c.args.share.now)

-- what is loaded fits together
pub returns-clause-sound : goal.returns-clause-sound
returns-clause-sound g c = record {
  coherent = coherent_at c.as_str.ensures.value c.add_password-added.ensures.coherent c.requires.sound.coherent;
  least = c.requires.sound.least;
  most = c.requires.sound.most;
  keyed = c.requires.sound.keyed;
}

pub returns-in_default-derived_key-clause-sound : goal.returns-in_default-derived_key-clause-sound
returns-in_default-derived_key-clause-sound g c = record {
  coherent = c.requires.sound.coherent;
  least = c.requires.sound.least;
  most = c.requires.sound.most;
  keyed = c.requires.sound.keyed;
}

-- only a fault leaves a doubt
pub returns-clause-ended : goal.returns-clause-ended
returns-clause-ended g c =
    let call = c.add_password-added in
    subst (λ (pair : Option Doubt × Answer). IsEnded IsEditions c.args.state.now
    (record c.args.state.now { generator = c.iv-iv.new.self; stored = call.new.stored; doubt = pair.0 }) pair.1)
    (λ i. (sym c.told.ensures.doubt i, sym c.told.ensures.answer i))
    (ended_by IsEditions c.args.state.now c.iv-iv.new.self c.args.state.now.sessions call.new.stored
    Editions call.result tt c.requires.ready.settled call.ensures.only call.ensures.err)

pub returns-in_default-derived_key-clause-ended : goal.returns-in_default-derived_key-clause-ended
returns-in_default-derived_key-clause-ended g c =
    stood_ended IsEditions c.args.state.now c.derived_key.new.generator c.args.state.now.account answers.NoMemory
    (inr refl) c.requires.ready.settled

-- perhaps a salt, and an IV
pub returns-clause-draws : goal.returns-clause-draws
returns-clause-draws g c =
    draws_wider 3 7 0 7 c.args.state.now.generator c.iv-iv.new.self (omega arith) (omega arith)
    (draws_then 0 4 c.args.state.now.generator c.derived_key.new.generator c.iv-iv.new.self 3 (omega arith)
    c.derived_key.ensures.draws
    c.iv-iv.ensures.moves)

pub returns-in_default-derived_key-clause-draws : goal.returns-in_default-derived_key-clause-draws
returns-in_default-derived_key-clause-draws g c =
    draws_wider 0 4 0 7 c.args.state.now.generator c.derived_key.new.generator (omega arith) (omega arith)
    c.derived_key.ensures.draws

-- the record's cost is the state's
pub returns-clause-cost : goal.returns-clause-cost
returns-clause-cost g c =
    costs_at (g.S.Share.seen c.args.share.now) (g.S.Share.seen c.add_password-added.new.share)
    c.as_str.ensures.value c.in-Ok.ensures.cost c.add_password-added.ensures.cost

pub returns-in_default-derived_key-clause-cost : goal.returns-in_default-derived_key-clause-cost
returns-in_default-derived_key-clause-cost g c =
    costs_none (g.S.Share.seen c.args.share.now) c.args.state.now.account c.args.state.now.cost

-- why it was answered so
pub returns-clause-caused : goal.returns-clause-caused
returns-clause-caused g c =
    let call = c.add_password-added in
    let old = g.S.Share.seen c.args.share.now in
    let new = g.S.Share.seen call.new.share in
    subst (IsCaused old new c.args.state.now.account ⊥) (sym c.told.ensures.answer)
    (caused_by old new c.args.state.now.account ⊥ c.args.state.now.stored call.new.stored
    (SetsPassword c.args.label.now c.in-Ok.derived c.in-Some.main) call.result (edits_at c.as_str.ensures.value
    call.ensures.edits) call.ensures.only
    call.ensures.calm)

pub returns-in_default-derived_key-clause-caused : goal.returns-in_default-derived_key-clause-caused
returns-in_default-derived_key-clause-caused g c = starved_caused (g.S.Share.seen c.args.share.now)
    c.args.state.now.account ⊥

-- an edition is left
pub prove-unreachable-requires : goal.prove-unreachable-requires
prove-unreachable-requires g c =
    let below = add_below c.args.state.now c.requires.ready c.requires.sound c.args.label.now
    c.args.state.now.account c.args.token.now
    c.args.secret.now None c.requires.due
    c.next_edition-edition.ensures.within in
    let value = c.next_edition-edition.ensures.value ∙ ap next_in (add_stash c.args.state.now c.requires.ready
    c.requires.sound c.args.label.now c.args.state.now.account c.args.token.now
    c.args.secret.now None c.requires.due).1 in
    let over = c.if-prove.true in
    omega (arith, below, value, over)

-- an IV was drawn before the puts
pub returns-clause-fresh : goal.returns-clause-fresh
returns-clause-fresh g c = λ _.
    draws_then 0 4 c.args.state.now.generator c.derived_key.new.generator c.iv-iv.new.self 3 (omega arith)
    c.derived_key.ensures.draws c.iv-iv.ensures.moves

pub returns-in_default-derived_key-clause-fresh : goal.returns-in_default-derived_key-clause-fresh
returns-in_default-derived_key-clause-fresh g c =
    not_tried c.args.state.now.account answers.NoMemory
    (Draws 3 7 c.args.state.now.generator c.derived_key.new.generator) (inr refl)
