use Rattle.account_machine.specs.declared.answer.Answer.TheVariants as answers
use Rattle.account_machine.specs.Effect.{cleared}
use Rattle.machine_step.proofs.RowLaws.{right_pin-by, put-same}
use Rattle.machine_step.proofs.rows.right_pin.Goals as goal

pub returns : goal.returns
returns c =
    let user = c.args.user.now in
    let label = c.args.label.now in
    let put = put-same user.durable.factors c.insert.new.self label c.in_ok-copy.field-0 (cleared c.args.factor.now) c.in_ok-cleared.field-0
    c.in_ok-insert.ensures.ok c.in_ok-copy.ensures.value c.in_ok-cleared.ensures in (
      answers.OkEnds c.proved-after.result.ends,
      right_pin-by user c.args.token.now c.args.session.now c.requires.there label c.args.factor.now c.insert.new.self c.proved-after.result c.replace.new.self
          put c.proved-after.ensures c.replace.ensures,
      c.is_ends.ensures,
    )
