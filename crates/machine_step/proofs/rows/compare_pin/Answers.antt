use Rattle.std.proofs.Common.{cond, ap, sym, ◌∙◌}
use Rattle.account_machine.specs.declared.answer.Answer.TheVariants as answers
use Rattle.account_machine.specs.Effect.{gives, right_pin, set_factor, missed}
use Rattle.machine_step.proofs.RowLaws.{put-same, set_factor-same}
use Rattle.machine_step.proofs.rows.compare_pin.Goals as goal

-- another secret: one wrong try more
pub returns : goal.returns
returns c =
    let user = c.args.user.now in
    let label = c.args.label.now in
    let after = missed (record { boot = c.args.era.boot; at = user.last }) c.args.factor.now in
    let put = put-same user.durable.factors c.insert.new.self label c.in_ok-copy.field-0 after c.in_ok-after.after
    c.in_ok-insert.ensures.ok c.in_ok-copy.ensures.value c.in_ok-after.ensures in (
      answers.Wrong,
      ap (λ b. cond b (right_pin user c.args.token.now label c.args.session.now c.args.factor.now) (gives answers.Wrong (set_factor user label after))) (sym c.eq.ensures ∙ c.if-eq.false)
          ∙ ap (gives answers.Wrong) (set_factor-same user label after c.insert.new.self put),
      c.is_wrong.ensures,
    )
