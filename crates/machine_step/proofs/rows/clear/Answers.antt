use Rattle.std.proofs.Common.{ap, sym, ◌∙◌}
use Rattle.account_machine.specs.declared.answer.Answer.TheVariants as answers
use Rattle.account_machine.specs.Effect.{gives, cleared, cleared_by, first_counted}
use Rattle.machine_step.proofs.RowLaws.{put-same, set_factor-same}
use Rattle.machine_step.proofs.rows.clear.Goals as goal

-- no PIN has a count
pub returns-in_default : goal.returns-in_default
returns-in_default c = (
  answers.PinsClear,
  ap (λ found. cleared_by found c.args.user.now) (sym (c.in_default.ensures ∙ ap first_counted c.rows.ensures)),
  c.is_clear.ensures,
)

pub returns : goal.returns
returns c =
    let user = c.args.user.now in
    let row = c.in-Some.row.now in
    let put = put-same user.durable.factors c.insert.new.self row.0 c.in_ok-label.label (cleared row.1) c.in_ok-after.after
    c.in_ok-insert.ensures.ok c.in_ok-label.ensures.value c.in_ok-after.ensures in (
      answers.PinCleared,
      ap (λ found. cleared_by found user) (sym (c.in-Some.ensures ∙ ap first_counted c.rows.ensures))
          ∙ ap (gives answers.PinCleared) (set_factor-same user row.0 (cleared row.1) c.insert.new.self put),
      c.is_cleared.ensures,
    )
