use Rattle.std.proofs.Common.{ap, sym}
use Rattle.std.specs.Prelude.{option_and_then}
use Rattle.account_machine.specs.declared.answer.Answer.TheVariants as answers
use Rattle.account_machine.specs.Outline.{Bytes}
use Rattle.account_machine.specs.Effect.{gives}
use Rattle.machine_step.proofs.rows.read_file.Goals as goal

pub returns : goal.returns
returns c = (
  answers.OkBytes c.in_ok-get.field-0.now,
  ap (option_and_then (λ (bytes : Bytes). gives (answers.OkBytes bytes) c.args.user.now)) (sym c.in_ok-get.ensures),
  c.is_bytes.ensures,
)
