use Rattle.std.proofs.Common.{ap, sym, ◌∙◌}
use Rattle.account_machine.specs.declared.answer.Answer.TheVariants as answers
use Rattle.account_machine.specs.Effect.{gives, pin_tried}
use Rattle.machine_step.proofs.rows.try_pin.Goals as goal

-- the delay rule lets it wait
pub returns-in-Delayed : goal.returns-in-Delayed
returns-in-Delayed c = (
  answers.Delayed c.saturating_sub.result,
  ap (λ r. pin_tried r c.args.era c.args.user.now c.args.token.now c.args.label.now c.args.secret.now c.args.session.now c.args.factor.now) (sym c.in-Delayed.ensures)
      ∙ ap (λ n. gives (answers.Delayed n) c.args.user.now) (sym c.saturating_sub.ensures),
  c.is_delayed.ensures,
)

-- or locks it
pub returns-in-Locked : goal.returns-in-Locked
returns-in-Locked c = (
  answers.Locked,
  ap (λ r. pin_tried r c.args.era c.args.user.now c.args.token.now c.args.label.now c.args.secret.now c.args.session.now c.args.factor.now) (sym c.in-Locked.ensures),
  c.is_locked.ensures,
)
