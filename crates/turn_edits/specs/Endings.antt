-- How a turn with an edit ends.
use Rattle.std.specs.Prelude.{◌≡◌, ◌≢◌, ◌≤◌, ◌⊎◌, ℕ, zero, suc, List, ◌++◌, Option, None, Some, IsSomeAnd, Result, Ok, Err}
use Rattle.account_machine.specs.declared.answer.Answer.{Answer}
use Rattle.account_machine.specs.declared.answer.Answer.TheVariants as answers
use Rattle.random_values.specs.Stretches.{Place, moved}
use Rattle.record_names.specs.Names.{AreParts, stash_name}
use Rattle.record_names.specs.Names.{File as Named}
use Rattle.share_api.specs.Contents.{Bytes}
use Rattle.share_api.specs.Places.{steps_of}
use Rattle.share_api.specs.Seen.{ShareSeen, HasFailed}
use Rattle.share_api.specs.declared.step.Step.{Step}
use Rattle.stored_home.specs.declared.fault.StoreFault.{StoreFault}
use Rattle.stored_home.specs.declared.fault.StoreFault.TheVariants as faults
use Rattle.user_state.specs.declared.state.Doubt.{Doubt}
use Rattle.user_state.specs.declared.state.Doubt.TheVariants.{Editions, File, Leaf}
use Rattle.user_state.specs.declared.state.UserState.{UserState}

-- the answer to an edit: its faults are a failed step and want of memory
abbrev pub answer_of : Result (Unit {0}) StoreFault → Answer
answer_of (Ok done) = answers.Ok
answer_of (Err faults.Failed) = answers.StorageFault
answer_of (Err (faults.Damaged name)) = answers.NoMemory
answer_of (Err faults.NoMemory) = answers.NoMemory
answer_of (Err (faults.TreeLost host chip)) = answers.NoMemory

-- what is in doubt after it
abbrev pub doubt_of : Doubt → Option Doubt → Result (Unit {0}) StoreFault → Option Doubt
doubt_of doubt before (Ok done) = before
doubt_of doubt before (Err faults.Failed) = Some doubt
doubt_of doubt before (Err (faults.Damaged name)) = before
doubt_of doubt before (Err faults.NoMemory) = before
doubt_of doubt before (Err (faults.TreeLost host chip)) = before

-- a turn leaves the account, the cost of new factors and the last moment
pub record KeepsState (before after : UserState) : Type 0 where
  pub account : after.account ≡ before.account
  pub cost : after.cost ≡ before.cost
  pub last : after.last ≡ before.last

-- The account is unsettled exactly after a storage fault. Then this tells its two durable parts apart, beside what was
-- loaded before the turn.
pub record IsEnded (Tells : Doubt → Type 0) (before after : UserState) (answer : Answer) : Type 0 where
  pub fault : answer ≡ answers.StorageFault → IsSomeAnd after.doubt Tells
  pub loaded : answer ≡ answers.StorageFault → after.stored ≡ before.stored
  pub settled : answer ≢ answers.StorageFault → after.doubt ≡ None

-- the next edition and the editions by label tell them apart
abbrev pub IsEditions : Doubt → Type 0
IsEditions Editions = Unit {0}
IsEditions (File name bytes) = ⊥
IsEditions (Leaf label tree view) = ⊥

-- the record of the account's file of this name does
abbrev pub IsFile : Bytes → Bytes → Doubt → Type 0
IsFile account named Editions = ⊥
IsFile account named (File name bytes) = (name ≡ named) × AreParts (Named account name)
IsFile account named (Leaf label tree view) = ⊥

-- the place after so many words
abbrev pub after_words : Place → ℕ → Place
after_words place zero = place
after_words place (suc words) = moved place (suc words)

-- the generator's key stays, and from so many words of its stream to so many were drawn
pub record Draws (least most : ℕ) (before after : Place) : Type 0 where
  pub words : ℕ
  pub some : least ≤ words
  pub few : words ≤ most
  pub moved_is : after ≡ after_words before words

-- a step of the turn failed
abbrev pub MadeFailed : ShareSeen → ShareSeen → Type 0
MadeFailed old new = (own : List (ℕ × Step)) × (new.own ≡ old.own ++ own) × HasFailed (steps_of own)

-- the answers of a turn with an edit
abbrev pub IsEditAnswer : Answer → Type 0
IsEditAnswer answer =
    (answer ≡ answers.Ok) ⊎ (answer ≡ answers.StorageFault) ⊎ (answer ≡ answers.NoMemory)
    ⊎ ((name : Bytes) × (answer ≡ answers.Damaged name))

-- an edit was tried on the share
abbrev pub IsTried : Answer → Type 0
IsTried answer = (answer ≡ answers.Ok) ⊎ (answer ≡ answers.StorageFault)

-- Why a turn with an edit was answered so: a storage fault exactly where a step of it failed, want of memory before any
-- step, and a damaged stash, also before any step, where the account is broken so.
pub record IsCaused (old new : ShareSeen) (account : Bytes) (Broken : Type 0) (answer : Answer) : Type 0 where
  pub known : IsEditAnswer answer
  pub fault : answer ≡ answers.StorageFault → MadeFailed old new
  pub done : answer ≡ answers.Ok → MadeFailed old new → ⊥
  pub memory : answer ≡ answers.NoMemory → new ≡ old
  pub damaged : (name : Bytes) → answer ≡ answers.Damaged name → (name ≡ stash_name account) × Broken × (new ≡ old)
