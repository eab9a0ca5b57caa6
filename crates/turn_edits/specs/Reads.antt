-- Reading a vault file.
use Rattle.std.specs.Prelude.{◌≡◌, ◌⊎◌, ℕ, List, ◌++◌, Option, None, Some, Result, Ok, Err}
use Rattle.account_machine.specs.declared.answer.Answer.{Answer}
use Rattle.account_machine.specs.declared.answer.Answer.TheVariants as answers
use Rattle.record_names.specs.Names.{stash_name, file_name}
use Rattle.home_edits.specs.Files.{file_of}
use Rattle.share_api.specs.Contents.{Bytes, Contents}
use Rattle.share_api.specs.Folds.{Fold}
use Rattle.share_api.specs.Places.{steps_of}
use Rattle.share_api.specs.Seen.{ShareSeen}
use Rattle.share_api.specs.Steps.{Does}
use Rattle.share_api.specs.declared.step.Step.{Step}
use Rattle.stored_home.specs.declared.fault.StoreFault.{StoreFault}
use Rattle.stored_home.specs.declared.fault.StoreFault.TheVariants as faults
use Rattle.user_state.specs.declared.state.Doubt.{Doubt}
use Rattle.user_state.specs.declared.state.Doubt.TheVariants.{Editions}
use Rattle.turn_edits.specs.Endings.{MadeFailed}

-- the answer to a read's fault. A damaged record's name needs memory
abbrev pub IsFaultAnswer : StoreFault → Answer → Type 0
IsFaultAnswer faults.Failed answer = answer ≡ answers.StorageFault
IsFaultAnswer (faults.Damaged name) answer = (answer ≡ answers.Damaged name) ⊎ (answer ≡ answers.NoMemory)
IsFaultAnswer faults.NoMemory answer = answer ≡ answers.NoMemory
IsFaultAnswer (faults.TreeLost host chip) answer = answer ≡ answers.NoMemory

abbrev pub IsReadAnswer : Result Bytes StoreFault → Answer → Type 0
IsReadAnswer (Ok bytes) answer = answer ≡ answers.OkBytes bytes
IsReadAnswer (Err fault) answer = IsFaultAnswer fault answer

-- what is in doubt after it
abbrev pub doubt_of_fault : Option Doubt → StoreFault → Option Doubt
doubt_of_fault before faults.Failed = Some Editions
doubt_of_fault before (faults.Damaged name) = before
doubt_of_fault before faults.NoMemory = before
doubt_of_fault before (faults.TreeLost host chip) = before

abbrev pub doubt_of_read : Option Doubt → Result Bytes StoreFault → Option Doubt
doubt_of_read before (Ok bytes) = before
doubt_of_read before (Err fault) = doubt_of_fault before fault

-- the answers of a turn that reads a file
abbrev pub IsFileAnswer : Answer → Type 0
IsFileAnswer answer =
    ((bytes : Bytes) × (answer ≡ answers.OkBytes bytes)) ⊎ (answer ≡ answers.StorageFault)
    ⊎ (answer ≡ answers.NoMemory) ⊎ ((name : Bytes) × (answer ≡ answers.Damaged name))

-- The damaged record is the file's: of whatever contents the share's steps lead to, it isn't there or doesn't open under
-- the vault key.
pub record IsUnreadable (old new : ShareSeen) (account name : Bytes) (vault : Option Bytes) (named : Bytes) : Type 0 where
  pub name_is : named ≡ file_name account name
  pub key : Bytes
  pub vault_is : vault ≡ Some key
  pub shown : (own : List (ℕ × Step)) → new.own ≡ old.own ++ own → (start end : Contents)
      → Fold (Does old.era) start (steps_of own) end → file_of key account name end ≡ None

-- Why a read was answered so: a storage fault where its step failed, and a damaged record where it is the file's, which
-- the step read, or the stash's of an account that is broken so.
pub record IsReadCaused (old new : ShareSeen) (account name : Bytes) (vault : Option Bytes) (Broken : Type 0)
    (answer : Answer) : Type 0 where
  pub known : IsFileAnswer answer
  pub fault : answer ≡ answers.StorageFault → MadeFailed old new
  pub damaged : (named : Bytes) → answer ≡ answers.Damaged named
      → ((named ≡ stash_name account) × Broken) ⊎ IsUnreadable old new account name vault named
