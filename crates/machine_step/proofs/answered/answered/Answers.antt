use Rattle.std.proofs.Common.{◌≡◌, Option, Bool, true, false, subst, sym, ◌∙◌}
use Rattle.account_machine.specs.declared.user.User.{User}
use Rattle.account_machine.specs.Step.{outcome}
use Rattle.machine_step.specs.Done.{tail_in, IsDone}
use Rattle.machine_step.proofs.Choosing.{given_by_row, given_unsettled, given_stay, not_given}
use Rattle.machine_step.proofs.answered.answered.Goals as goal

-- the row gave it
pub returns-then-fits : goal.returns-then-fits
returns-then-fits c =
    let IsSo : Option Bool → Type 0 = λ gave. IsDone (outcome c.args.era (tail_in c.args.answer.now) c.args.user c.args.turn.now) c.args.answer.now c.row.new.user gave in
    let is : IsSo c.in_ok-gave.gave =
    subst (λ (u : User). IsDone (outcome c.args.era (tail_in c.args.answer.now) u c.args.turn.now) c.args.answer.now c.row.new.user c.in_ok-gave.gave) c.in_ok-done.ensures.value c.in_ok-gave.ensures in
    given_by_row c.args.era c.args.user c.args.turn.now c.args.answer.now c.row.new.user (subst IsSo (c.fits.ensures.0 c.if-fits.true) is)

-- a device failed
pub returns-then-fails : goal.returns-then-fails
returns-then-fails c =
    let is = subst (λ (u : User). IsDone (outcome c.args.era (tail_in c.args.answer.now) u c.args.turn.now) c.args.answer.now c.row.new.user c.in_ok-gave.gave) c.in_ok-done.ensures.value c.in_ok-gave.ensures in
    let fault = c.fails.ensures.0 c.if-fails.true in
    given_unsettled c.args.era c.args.user c.args.turn.now c.args.answer.now c.row.new.user c.in_ok-gave.gave is fault.0 fault.1 fault.2

-- the user stays
pub returns-then-stays : goal.returns-then-stays
returns-then-stays c = given_stay c.args.era c.args.user c.args.turn.now c.args.answer.now (c.stays.ensures.0 c.if-stays.true)

-- and there is nothing else
pub returns : goal.returns
returns c =
    let is = subst (λ (u : User). IsDone (outcome c.args.era (tail_in c.args.answer.now) u c.args.turn.now) c.args.answer.now c.row.new.user c.in_ok-gave.gave) c.in_ok-done.ensures.value c.in_ok-gave.ensures in
    not_given c.args.era c.args.user c.args.turn.now c.args.answer.now c.row.new.user c.in_ok-gave.gave is
    (λ gave. let clash : false ≡ true = sym c.if-fits.false ∙ c.fits.ensures.1 gave in cc)
    (λ fault. let clash : false ≡ true = sym c.if-fails.false ∙ c.fails.ensures.1 fault in cc)
    (λ stay. let clash : false ≡ true = sym c.if-stays.false ∙ c.stays.ensures.1 stay in cc)
