use Rattle.std.proofs.Common.{ap, sym, ◌∙◌}
use Rattle.std.specs.Prelude.{option_and_then}
use Rattle.account_machine.specs.declared.answer.Answer.TheVariants as answers
use Rattle.account_machine.specs.declared.factor.Factor.{Factor}
use Rattle.account_machine.specs.Effect.{gives, with_factor}
use Rattle.machine_step.proofs.rows.update.Goals as goal

pub returns : goal.returns
returns c =
    let user = c.args.user.now in (
      answers.Ok,
      ap (option_and_then (λ (factor : Factor). gives answers.Ok (record user { durable = with_factor user.durable c.args.label.now factor.kind c.args.secret.now factor.schedule }))) (sym c.in-Some.ensures)
          ∙ ap (λ d. gives answers.Ok (record user { durable = d })) (sym c.in_ok-put_factor.ensures),
      c.is_ok.ensures,
    )
