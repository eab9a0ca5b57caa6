-- What the code of a row tells.
use Rattle.std.specs.Prelude.{◌≡◌, ℕ, List, replicate, Bool, Option, None, Some, IsTrue, ◌↔◌}
use Rattle.account_machine.specs.declared.answer.Answer.{Answer}
use Rattle.account_machine.specs.declared.answer.Answer.TheVariants as answers
use Rattle.account_machine.specs.declared.user.User.{User}
use Rattle.account_machine.specs.Effect.{Outcome, gives}

-- the tail of the session that an answer starts
abbrev pub tail_in : Answer → List ℕ
tail_in (answers.OkSession ends token) = token.tail
tail_in _ = replicate 16 0

-- whether an answer is the one that a row gives with this user after it, and none where the row gives nothing
abbrev pub IsDone : Option Outcome → Answer → User → Option Bool → Type 0
IsDone due answer after None = due ≡ None
IsDone due answer after (Some fits) = (given : Answer) × (due ≡ gives given after) × (IsTrue fits ↔ (answer ≡ given))
