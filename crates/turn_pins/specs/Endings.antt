-- How a turn with an edit of a PIN ends.
use Rattle.std.specs.Prelude.{◌≡◌, Option, None, Some, Result, Ok, Err, IsSome}
use Rattle.account_machine.specs.declared.answer.Answer.{Answer}
use Rattle.account_machine.specs.declared.answer.Answer.TheVariants as answers
use Rattle.share_api.specs.Contents.{Bytes}
use Rattle.share_api.specs.Seen.{ShareSeen}
use Rattle.stored_home.specs.declared.fault.StoreFault.{StoreFault}
use Rattle.stored_home.specs.declared.fault.StoreFault.TheVariants as faults
use Rattle.stored_home.specs.declared.stored.LostTree.{LostTree}
use Rattle.turn_edits.specs.Endings.{MadeFailed}

-- the answer to an edit of a PIN that reads nothing: its faults are a failed step, want of memory and a lost tree
abbrev pub pin_answer : Result (Unit {0}) StoreFault → Answer
pin_answer (Ok done) = answers.Ok
pin_answer (Err faults.Failed) = answers.StorageFault
pin_answer (Err (faults.Damaged name)) = answers.NoMemory
pin_answer (Err faults.NoMemory) = answers.NoMemory
pin_answer (Err (faults.TreeLost host chip)) = answers.TreeLost host chip

-- a lost tree is answered exactly where the tree was lost when the account was loaded, with its roots
abbrev pub TellsTree : Option LostTree → Answer → Type 0
TellsTree None answer = (host chip : Bytes) → answer ≡ answers.TreeLost host chip → ⊥
TellsTree (Some tree) answer = answer ≡ answers.TreeLost tree.host tree.chip

-- Why a turn with an edit of a PIN was answered so: a storage fault where a step of it failed, and never Ok where one
-- did; want of memory where Calm, a damaged record that is one of these, and a lost tree with no step made.
pub record IsPinCaused (old new : ShareSeen) (lost : Option LostTree) (Calm : Type 0) (Damages : Bytes → Type 0)
    (answer : Answer) : Type 0 where
  pub fault : answer ≡ answers.StorageFault → MadeFailed old new
  pub done : answer ≡ answers.Ok → MadeFailed old new → ⊥
  pub memory : answer ≡ answers.NoMemory → Calm
  pub damaged : (name : Bytes) → answer ≡ answers.Damaged name → Damages name
  pub tree : TellsTree lost answer
  pub still : IsSome lost → new ≡ old
