use Rattle.std.proofs.Common.{ap}
use Rattle.account_machine.specs.declared.answer.Answer.TheVariants as answers
use Rattle.account_machine.specs.Effect.{turn_effect, edition_of}
use Rattle.machine_step.specs.Done.{tail_in}
use Rattle.machine_step.proofs.rows.perform.Goals as goal

pub returns-in-Look : goal.returns-in-Look
returns-in-Look c = (
  answers.Seen (edition_of c.args.user.now c.in-Look.label),
  ap (turn_effect c.args.era (tail_in c.args.answer.now) c.args.user.now) c.in-Look.is,
  c.look.ensures,
)
