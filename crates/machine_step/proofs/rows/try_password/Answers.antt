use Rattle.std.proofs.Common.{cond, sym, ◌∙◌, ap}
use Rattle.account_machine.specs.declared.answer.Answer.TheVariants as answers
use Rattle.account_machine.specs.Effect.{gives, right_password}
use Rattle.machine_step.proofs.rows.try_password.Goals as goal

-- another secret
pub returns-else-eq : goal.returns-else-eq
returns-else-eq c = (
  answers.Wrong,
  ap (λ b. cond b (right_password c.args.user.now c.args.token.now c.args.session.now) (gives answers.Wrong c.args.user.now)) (sym c.eq.ensures ∙ c.if-eq.false),
  c.is_wrong.ensures,
)
