-- Putting and reading a vault file.
use Rattle.std.specs.Prelude.{◌≡◌, ◌≢◌, ◌≤◌, Bool, List, Option, None, Some, Result, Ok, Err, is_some, length}
use Rattle.std.specs.Result.{result_ok}
use Rattle.std.specs.FinMap.{get, insert}
use Rattle.account_machine.specs.declared.user.Durable.{Durable}
use Rattle.record_names.specs.Names.{AreParts, File, file_name}
use Rattle.share_api.specs.Contents.{Bytes, Contents}
use Rattle.share_api.specs.Folds.{Fold, Throughout}
use Rattle.share_api.specs.Seen.{ShareSeen, Runs, HasFailed}
use Rattle.share_api.specs.Steps.{Does}
use Rattle.share_api.specs.declared.step.Step.{Step}
use Rattle.vault_crypt.specs.VaultFile.{opened_file}
use Rattle.stored_home.specs.Bounds.{HasBounds}
use Rattle.stored_home.specs.Changes.{durable_with_file}
use Rattle.stored_home.specs.Holds.{Keys, IsFileOf, HoldsUnder}
use Rattle.stored_home.specs.Loaded.{Filed, HasFactors, IsKept}
use Rattle.stored_home.specs.declared.stored.Stored.{Stored}
use Rattle.home_edits.specs.Edits.{Edits, Starts}
use Rattle.home_edits.specs.declared.files.FilePut.{FilePut}
use Rattle.stored_home.specs.declared.fault.StoreFault.{StoreFault}
use Rattle.stored_home.specs.declared.fault.StoreFault.TheVariants as faults

-- the files with one of this name
abbrev pub with_file : Filed → Bytes → Filed
with_file files name = insert files name (record {})

-- put_file: the key is the home's vault key, and the durable part after it has these bytes in the file
pub record PutsFile (vault name bytes : Bytes) (contents : Contents) (keys : Keys) (before after : Durable)
    : Type 0 where
  pub vault_is : keys.vault ≡ vault
  pub after_is : after ≡ durable_with_file before name bytes
  pub bounds : HasBounds after

-- a file's record is made, its bytes under the vault key, and so are the loaded files with it
pub record IsFilePut (vault account plain : Bytes) (files : Filed) (put : FilePut) : Type 0 where
  pub opens : IsFileOf vault account put.name put.sealed plain
  pub size : length put.sealed ≤ 49181
  pub files_are : put.files ≡ with_file files put.name

-- The file's record tells which durable part is held: the one after the put where the record is the one that was put,
-- and else the one before it.
pub record TellsFile (lost : Bool) (account name sealed : Bytes) (keys : Keys) (before after : Durable)
    (contents : Contents) : Type 0 where
  pub put : get contents.records (file_name account name) ≡ Some sealed → HoldsUnder lost contents account after keys
  pub not_put : get contents.records (file_name account name) ≢ Some sealed
      → HoldsUnder lost contents account before keys

-- put_file: an edit of which the file's record tells whether it was done, whichever way it ended
pub record EditsFile (old new : ShareSeen) (account : Bytes) (stored after : Stored) (ok failed : Type 0)
    (vault plain : Bytes) (put : FilePut) : Type 0 where
  pub named : AreParts (File account put.name)
  pub edits : Edits old new account stored after ok failed (PutsFile vault put.name plain)
  pub tells : (contents new : Contents) (keys : Keys) (before next : Durable)
      → Starts (is_some old.lost) account stored (PutsFile vault put.name plain) contents keys before next
      → Fold (Does old.era) contents edits.steps new
      → TellsFile (is_some old.lost) account put.name put.sealed keys before next new

-- what a file's record opens to under the vault key: nothing where it isn't there, breaks its form or has another tag
abbrev pub file_in : Bytes → Bytes → Bytes → Option Bytes → Option Bytes
file_in vault account name None = None
file_in vault account name (Some bytes) = result_ok (opened_file vault account name bytes)

-- what the file's record in these contents opens to
abbrev pub file_of : Bytes → Bytes → Bytes → Contents → Option Bytes
file_of vault account name contents = file_in vault account name (get contents.records (file_name account name))

-- the answer is what the record of this name opens to, unless there was no memory
abbrev pub Shows : Bytes → Result Bytes StoreFault → Option Bytes → Type 0
Shows named (Ok bytes) shown = shown ≡ Some bytes
Shows named (Err faults.Failed) shown = ⊥
Shows named (Err (faults.Damaged name)) shown = (name ≡ named) × (shown ≡ None)
Shows named (Err faults.NoMemory) shown = Unit {0}
Shows named (Err (faults.TreeLost host chip)) shown = ⊥

-- the faults of reading a vault file
abbrev pub IsReadFileFault : StoreFault → Type 0
IsReadFileFault faults.Failed = Unit {0}
IsReadFileFault (faults.Damaged name) = Unit {0}
IsReadFileFault faults.NoMemory = Unit {0}
IsReadFileFault (faults.TreeLost host chip) = ⊥

-- A vault file is read from whatever contents the account's steps fit: what is held stays.
pub record ReadsFile (old new : ShareSeen) (account vault name : Bytes) (result : Result Bytes StoreFault) : Type 0
  where
    pub steps : List Step
    pub runs : Runs old new steps
    pub fails : result ≡ Err faults.Failed → HasFailed steps
    -- the answer is what the file's record opens to, and what a home with factors holds
    pub found : (bytes : Bytes) → result ≡ Ok bytes → (contents new : Contents) → Fold (Does old.era) contents steps new
        → file_of vault account name contents ≡ Some bytes
    pub held : (bytes : Bytes) → result ≡ Ok bytes → (contents new : Contents) (durable : Durable) (keys : Keys)
        (stored : Stored)
        → HasFactors stored → HoldsUnder (is_some old.lost) contents account durable keys
        → IsKept (is_some old.lost) contents account stored → keys.vault ≡ vault
        → Fold (Does old.era) contents steps new → get durable.files name ≡ Some bytes
    -- the damaged record is the file's, which doesn't open
    pub damaged : (record_name : Bytes) → result ≡ Err (faults.Damaged record_name)
        → (record_name ≡ file_name account name)
        × ((contents new : Contents) → Fold (Does old.era) contents steps new → file_of vault account name contents ≡
        None)
    -- nothing changes
    pub same : (contents new : Contents) → contents.doubt ≡ None → Fold (Does old.era) contents steps new
        → new ≡ contents
    pub kept : (contents : Contents) (durable : Durable) (keys : Keys)
        → HoldsUnder (is_some old.lost) contents account durable keys
        → Throughout (Does old.era) (λ c. HoldsUnder (is_some old.lost) c account durable keys) contents steps
