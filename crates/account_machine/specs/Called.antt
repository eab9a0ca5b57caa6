-- Calls that were answered.
use Rattle.std.specs.Prelude.{ℕ}
use Rattle.account_machine.specs.declared.request.Request.{Request}
use Rattle.account_machine.specs.declared.answer.Answer.{Answer}

-- one call: what was asked, at which moment, and the answer
pub record Call : Type 0 where
  pub request : Request
  pub moment : ℕ
  pub answer : Answer
