use Rattle.std.proofs.Common.{◌≤◌, ℕ, None, refl, sym, ap, ◌∙◌, subst, inr, arith}
use Rattle.account_machine.specs.declared.answer.Answer.{Answer}
use Rattle.account_machine.specs.declared.answer.Answer.TheVariants as answers
use Rattle.account_machine.specs.declared.factor.Kind.TheVariants.{Password}
use Rattle.account_machine.specs.declared.request.Request.TheVariants.{AddFactor}
use Rattle.account_machine.specs.declared.request.Turn.TheVariants.{Act}
use Rattle.home_edits.specs.FirstPasswords.{SetsFirstPassword}
use Rattle.home_edits.proofs.CostLemmas.{costs_none}
use Rattle.user_state.specs.Sound.{IsSound}
use Rattle.user_state.specs.Outlines.{next_in}
use Rattle.user_state.specs.Turns.{IsGiven}
use Rattle.user_state.specs.declared.state.UserState.{UserState}
use Rattle.user_state.specs.declared.state.Doubt.TheVariants.{Editions}
use Rattle.turn_edits.specs.Endings.{IsEditions, IsEnded, IsCaused, Draws}
use Rattle.turn_edits.specs.Sessions.{sessions_after}
use Rattle.turn_edits.proofs.Drawing.{draws_then, draws_wider}
use Rattle.turn_edits.proofs.EditGiven.{edits_at, coherent_at, costs_at}
use Rattle.turn_edits.proofs.EndingLemmas.{ended_by, caused_by}
use Rattle.turn_edits.proofs.First.{first_takes, first_given, first_sound}
use Rattle.turn_edits.proofs.Setting.{add_stash, add_below}
use Rattle.turn_edits.proofs.StandsIn.{not_tried, stood_turn, stood_ended, starved_caused}
use Rattle.turn_edits.proofs.adding.add_first.Goals as goal

-- the stash takes a first password
pub add_first_password-added-requires-clause-home : goal.add_first_password-added-requires-clause-home
add_first_password-added-requires-clause-home g c =
    first_takes c.args.state.now c.requires.ready c.requires.sound c.args.label.now c.args.state.now.account
    c.args.token.now c.args.secret.now None c.requires.due c.requires.bare c.next_edition-edition.ensures.within

pub add_first_password-added-requires-clause-least : goal.add_first_password-added-requires-clause-least
add_first_password-added-requires-clause-least g c =
    subst (λ (n : ℕ). 1 ≤ n) (sym c.in-Ok.ensures.cost) c.requires.sound.least

pub add_first_password-added-requires-clause-most : goal.add_first_password-added-requires-clause-most
add_first_password-added-requires-clause-most g c =
    subst (λ (n : ℕ). n ≤ 16) (sym c.in-Ok.ensures.cost) c.requires.sound.most

-- the table's row
pub returns-clause-given : goal.returns-clause-given
returns-clause-given g c = λ account schedule.
    let call = c.add_first_password-added in
    let before = c.args.state.now in
    let old = g.S.Share.seen c.args.share.now in
    let new = g.S.Share.seen call.new.share in
    let turn = Act (AddFactor account c.args.token.now c.args.label.now Password c.args.secret.now schedule) in
    subst (λ (pair : UserState × Answer). IsGiven old new before pair.0 turn pair.1)
    (λ i. (sym c.first_told.ensures.after i, sym c.first_told.ensures.answer i))
    (first_given before c.requires.ready c.requires.sound c.args.label.now account c.args.token.now c.args.secret.now
    schedule c.requires.due c.requires.bare c.requires.unmounted c.requires.no_main c.in-Ok.derived c.key-main.result
    c.key-vault.result c.in-Ok.ensures.key c.in-Some.at c.in-Some.ensures.some.0 old new c.requires.lost
    c.iv-payload.new.self call.new.stored call.result (edits_at c.as_str.ensures.value call.ensures.edits)
    call.ensures.only call.ensures.calm
    call.ensures.err call.ensures.lost
    (coherent_at c.as_str.ensures.value
    (call.ensures.coherent (let none = c.requires.no_files in omega (arith, none))) c.requires.sound.coherent).files)

-- there was no memory for the derivation
pub returns-in_default-derived_key-clause-given : goal.returns-in_default-derived_key-clause-given
returns-in_default-derived_key-clause-given g c = λ account schedule.
    stood_turn c.args.state.now c.requires.ready
    (Act (AddFactor account c.args.token.now c.args.label.now Password c.args.secret.now schedule)) tt
    c.derived_key.new.generator account answers.NoMemory (inr refl) (g.S.Share.seen c.args.share.now)

-- what is loaded fits together, and the session keeps its key
pub returns-clause-sound : goal.returns-clause-sound
returns-clause-sound g c =
    subst IsSound (sym c.first_told.ensures.after)
    (first_sound c.args.state.now c.requires.sound c.in-Some.at c.key-main.result c.iv-payload.new.self
    c.add_first_password-added.new.stored c.add_first_password-added.result
    (coherent_at c.as_str.ensures.value
    (c.add_first_password-added.ensures.coherent (let none = c.requires.no_files in omega (arith, none)))
    c.requires.sound.coherent))

pub returns-in_default-derived_key-clause-sound : goal.returns-in_default-derived_key-clause-sound
returns-in_default-derived_key-clause-sound g c = record {
  coherent = c.requires.sound.coherent;
  least = c.requires.sound.least;
  most = c.requires.sound.most;
  keyed = c.requires.sound.keyed;
}

-- only a fault leaves a doubt
pub returns-clause-ended : goal.returns-clause-ended
returns-clause-ended g c =
    let call = c.add_first_password-added in
    subst (λ (pair : UserState × Answer). IsEnded IsEditions c.args.state.now pair.0 pair.1)
    (λ i. (sym c.first_told.ensures.after i, sym c.first_told.ensures.answer i))
    (ended_by IsEditions c.args.state.now c.iv-payload.new.self
    (sessions_after call.result c.in-Some.at c.key-main.result c.args.state.now.sessions) call.new.stored
    Editions call.result tt c.requires.ready.settled call.ensures.only call.ensures.err)

pub returns-in_default-derived_key-clause-ended : goal.returns-in_default-derived_key-clause-ended
returns-in_default-derived_key-clause-ended g c =
    stood_ended IsEditions c.args.state.now c.derived_key.new.generator c.args.state.now.account answers.NoMemory
    (inr refl) c.requires.ready.settled

-- perhaps a salt, then two keys and two IVs
pub returns-clause-draws : goal.returns-clause-draws
returns-clause-draws g c =
    let one = c.derived_key.new.generator in
    let two = c.key-main.new.self in
    let three = c.key-vault.new.self in
    let four = c.iv-block.new.self in
    let last = c.iv-payload.new.self in
    let first = c.args.state.now.generator in
    subst (λ (s : UserState). Draws 0 26 first s.generator)
    (sym c.first_told.ensures.after)
    (draws_wider 22 26 0 26 first last (omega arith) (omega arith)
    (draws_then 19 23 first four last 3 (omega arith)
    (draws_then 16 20 first three four 3 (omega arith)
    (draws_then 8 12 first two three 8 (omega arith)
    (draws_then 0 4 first one two 8 (omega arith) c.derived_key.ensures.draws c.key-main.ensures.moves)
    c.key-vault.ensures.moves) c.iv-block.ensures.moves) c.iv-payload.ensures.moves))

pub returns-in_default-derived_key-clause-draws : goal.returns-in_default-derived_key-clause-draws
returns-in_default-derived_key-clause-draws g c =
    draws_wider 0 4 0 26 c.args.state.now.generator c.derived_key.new.generator (omega arith) (omega arith)
    c.derived_key.ensures.draws

-- the record's cost is the state's
pub returns-clause-cost : goal.returns-clause-cost
returns-clause-cost g c =
    costs_at (g.S.Share.seen c.args.share.now) (g.S.Share.seen c.add_first_password-added.new.share)
    c.as_str.ensures.value c.in-Ok.ensures.cost c.add_first_password-added.ensures.cost

pub returns-in_default-derived_key-clause-cost : goal.returns-in_default-derived_key-clause-cost
returns-in_default-derived_key-clause-cost g c =
    costs_none (g.S.Share.seen c.args.share.now) c.args.state.now.account c.args.state.now.cost

-- why it was answered so
pub returns-clause-caused : goal.returns-clause-caused
returns-clause-caused g c =
    let call = c.add_first_password-added in
    let old = g.S.Share.seen c.args.share.now in
    let new = g.S.Share.seen call.new.share in
    subst (IsCaused old new c.args.state.now.account ⊥) (sym c.first_told.ensures.answer)
    (caused_by old new c.args.state.now.account ⊥ c.args.state.now.stored call.new.stored
    (SetsFirstPassword c.args.label.now c.in-Ok.derived c.key-main.result c.key-vault.result) call.result
    (edits_at c.as_str.ensures.value call.ensures.edits) call.ensures.only call.ensures.calm)

pub returns-in_default-derived_key-clause-caused : goal.returns-in_default-derived_key-clause-caused
returns-in_default-derived_key-clause-caused g c = starved_caused (g.S.Share.seen c.args.share.now)
    c.args.state.now.account ⊥

-- an edition is left
pub prove-unreachable-requires : goal.prove-unreachable-requires
prove-unreachable-requires g c =
    let below = add_below c.args.state.now c.requires.ready c.requires.sound c.args.label.now
    c.args.state.now.account c.args.token.now
    c.args.secret.now None c.requires.due
    c.next_edition-edition.ensures.within in
    let value = c.next_edition-edition.ensures.value ∙ ap next_in (add_stash c.args.state.now c.requires.ready
    c.requires.sound c.args.label.now c.args.state.now.account c.args.token.now
    c.args.secret.now None c.requires.due).1 in
    let over = c.if-prove.true in
    omega (arith, below, value, over)

pub returns-clause-fresh : goal.returns-clause-fresh
returns-clause-fresh g c = λ _.
    let one = c.derived_key.new.generator in
    let two = c.key-main.new.self in
    let three = c.key-vault.new.self in
    let four = c.iv-block.new.self in
    let last = c.iv-payload.new.self in
    let first = c.args.state.now.generator in
    subst (λ (s : UserState). Draws 22 26 first s.generator)
    (sym c.first_told.ensures.after)
    (draws_then 19 23 first four last 3 (omega arith)
    (draws_then 16 20 first three four 3 (omega arith)
    (draws_then 8 12 first two three 8 (omega arith)
    (draws_then 0 4 first one two 8 (omega arith) c.derived_key.ensures.draws c.key-main.ensures.moves)
    c.key-vault.ensures.moves) c.iv-block.ensures.moves) c.iv-payload.ensures.moves)

pub returns-in_default-derived_key-clause-fresh : goal.returns-in_default-derived_key-clause-fresh
returns-in_default-derived_key-clause-fresh g c =
    not_tried c.args.state.now.account answers.NoMemory
    (Draws 22 26 c.args.state.now.generator c.derived_key.new.generator) (inr refl)
