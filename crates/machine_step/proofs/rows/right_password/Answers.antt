use Rattle.account_machine.specs.declared.answer.Answer.TheVariants as answers
use Rattle.machine_step.proofs.RowLaws.{right_password-by}
use Rattle.machine_step.proofs.rows.right_password.Goals as goal

pub returns : goal.returns
returns c = (
  answers.OkPassword c.proved-after.result.ends,
  right_password-by c.args.user.now c.args.token.now c.args.session.now c.requires.there c.proved-after.result c.replace.new.self c.proved-after.ensures c.replace.ensures,
  c.is_password.ensures,
)
