-- What the book keeps of a turn, and what is told of it.
use Rattle.std.specs.Prelude.{◌≡◌, ◌⊎◌, IfSome}
use Rattle.account_machine.specs.declared.answer.Answer.{Answer}
use Rattle.account_machine.specs.declared.answer.Answer.TheVariants as answers
use Rattle.account_machine.specs.declared.request.Turn.{Turn}
use Rattle.account_machine.specs.declared.request.Turn.TheVariants.{Look}
use Rattle.client_output.specs.Output.{IsToldOf, NamesPlainly}
use Rattle.share_api.specs.Contents.{Bytes}
use Rattle.turn_meaning.specs.declared.taken.TurnTaken.{TurnTaken}
use Rattle.user_state.specs.declared.state.Seen.{Seen}
use Rattle.user_accounts.specs.declared.asked.TurnAsked.{TurnAsked}
use Rattle.user_accounts.specs.declared.told.TurnTold.{TurnTold}

-- the answer is that a record is damaged
abbrev pub IsDamage : Answer → Type 0
IsDamage (answers.Damaged name) = Unit {0}
IsDamage _ = ⊥

-- the book keeps the answer, or that there was no memory in place of a damaged record
abbrev pub IsKeptOf : Answer → Answer → Type 0
IsKeptOf answer kept =
    (kept ≡ answer) ⊎ ((name : Bytes) × (answer ≡ answers.Damaged name) × (kept ≡ answers.NoMemory))

-- what is shown is what a look was answered
pub record IsSeenBy (turn : Turn) (answer : Answer) (seen : Seen) : Type 0 where
  pub label : Bytes
  pub turn_is : turn ≡ Look label
  pub answer_is : answer ≡ answers.Seen seen.edition

-- The turn that was asked was taken at the number that came with it. What is told is its answer, or that there was no
-- memory for the answer's list, and damage is told of what has a name as plain as a record's. What is shown is what the
-- turn was answered.
pub record TellsTurn (asked : TurnAsked) (taken : TurnTaken) (told : TurnTold) : Type 0 where
  pub turn_is : taken.turn ≡ asked.turn
  pub given_is : taken.given ≡ asked.moment
  pub told_is : IsToldOf taken.answer told.answer
  pub plain : NamesPlainly told.answer
  pub seen : IfSome told.seen (IsSeenBy taken.turn taken.answer)
