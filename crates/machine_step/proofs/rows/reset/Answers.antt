use Rattle.std.proofs.Common.{ap, sym, ◌∙◌}
use Rattle.std.specs.Prelude.{option_and_then}
use Rattle.account_machine.specs.declared.answer.Answer.TheVariants as answers
use Rattle.account_machine.specs.declared.factor.Factor.{Factor}
use Rattle.account_machine.specs.Effect.{gives, set_factor, cleared}
use Rattle.machine_step.proofs.RowLaws.{put-same, set_factor-same}
use Rattle.machine_step.proofs.rows.reset.Goals as goal

pub returns : goal.returns
returns c =
    let user = c.args.user.now in
    let label = c.args.label.now in
    let put = put-same user.durable.factors c.insert.new.self label c.in_ok-copy.field-0 (cleared c.in-Some.factor.now) c.in_ok-after.after
    c.in_ok-insert.ensures.ok c.in_ok-copy.ensures.value c.in_ok-after.ensures in (
      answers.Ok,
      ap (option_and_then (λ (factor : Factor). gives answers.Ok (set_factor user label (cleared factor)))) (sym c.in-Some.ensures)
          ∙ ap (gives answers.Ok) (set_factor-same user label (cleared c.in-Some.factor.now) c.insert.new.self put),
      c.is_ok.ensures,
    )
