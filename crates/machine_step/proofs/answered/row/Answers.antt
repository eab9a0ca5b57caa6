use Rattle.std.proofs.Common.{ap, sym}
use Rattle.account_machine.specs.Answers.{answer_of}
use Rattle.account_machine.specs.Step.{outcome_by}
use Rattle.machine_step.specs.Done.{tail_in}
use Rattle.machine_step.proofs.answered.row.Goals as goal

-- a refusal that applies is answered as it says
pub returns-in-Some : goal.returns-in-Some
returns-in-Some c = (
  answer_of c.in-Some.refused,
  ap (λ r. outcome_by r c.args.era (tail_in c.args.answer.now) c.args.user.now c.args.turn.now) (sym c.in-Some.ensures),
  c.says.ensures,
)
