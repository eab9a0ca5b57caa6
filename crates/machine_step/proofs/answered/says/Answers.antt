use Rattle.std.proofs.Common.{Some, ap, sym, ◌∙◌}
use Rattle.std.specs.Prelude.{unwrap_or}
use Rattle.machine_step.proofs.Saying.{answer-refused, refused-answer}
use Rattle.machine_step.proofs.answered.says.Goals as goal

-- it says another
pub returns-in-None : goal.returns-in-None
returns-in-None c = (
  λ h. cc,
  λ is.
      let said = c.in-None.ensures ∙ refused-answer c.args.answer.now c.args.refused is in cc,
)

pub returns-in-Some : goal.returns-in-Some
returns-in-Some c = (
  λ h. answer-refused c.args.answer.now c.args.refused (sym c.in-Some.ensures ∙ ap Some (c.is_same.ensures.0 h)),
  λ is. c.is_same.ensures.1 (ap (λ o. unwrap_or o c.in-Some.said) (c.in-Some.ensures ∙ refused-answer c.args.answer.now c.args.refused is)),
)
