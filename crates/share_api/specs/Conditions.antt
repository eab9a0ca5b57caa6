-- What calls of a share ask, and which faults they may answer.
use Rattle.std.specs.Prelude.{◌≡◌, ◌⊎◌, ℕ, Option, None, Some, Result, Err}
use Rattle.record_names.specs.Names.{stash_name, factor_name, file_name, leaf_name}
use Rattle.share_api.specs.Contents.{Bytes}
use Rattle.share_api.specs.declared.fault.ShareFault.{ShareFault}
use Rattle.share_api.specs.declared.fault.ShareFault.TheVariants.{Failed, TreeLost, Damaged, NoMemory}

-- the name of a record of the account that isn't a leaf's
abbrev pub IsFiledName : Bytes → Bytes → Type 0
IsFiledName account name =
    (name ≡ stash_name account)
    ⊎ (((label : Bytes) × (edition : ℕ) × (name ≡ factor_name account label edition))
    ⊎ ((file : Bytes) × (name ≡ file_name account file)))

-- the share is that of the account with this name; one that knows no name is any account's
abbrev pub IsOf : Option Bytes → Bytes → Type 0
IsOf None account = Unit {0}
IsOf (Some owner) account = account ≡ owner

-- the name is one of a record, other than a leaf, of the account whose share it is
abbrev pub IsOwnName : Option Bytes → Bytes → Type 0
IsOwnName owner name = (account : Bytes) × IsOf owner account × IsFiledName account name

-- names and gets
abbrev pub IsReadFault : ShareFault → Type 0
IsReadFault Failed = Unit {0}
IsReadFault (TreeLost host chip) = ⊥
IsReadFault (Damaged name) = ⊥
IsReadFault NoMemory = Unit {0}

-- inserts, removals of leaves and looks
abbrev pub IsLeafFault : ShareFault → Type 0
IsLeafFault Failed = Unit {0}
IsLeafFault (TreeLost host chip) = Unit {0}
IsLeafFault (Damaged name) = ⊥
IsLeafFault NoMemory = ⊥

-- tries and resets of the leaf at a label
abbrev pub IsTryFault : ℕ → ShareFault → Type 0
IsTryFault label Failed = Unit {0}
IsTryFault label (TreeLost host chip) = Unit {0}
IsTryFault label (Damaged name) = (account : Bytes) × (name ≡ leaf_name account label)
IsTryFault label NoMemory = ⊥

module _ {A : Type 0} where
  -- Where the tree isn't lost a call on leaves doesn't say so; where it is, the call fails or tells the roots.
  abbrev pub TellsLoss : Option (Bytes × Bytes) → Result A ShareFault → Type 0
  TellsLoss None result = (host chip : Bytes) → result ≡ Err (TreeLost host chip) → ⊥
  TellsLoss (Some roots) result = (result ≡ Err Failed) ⊎ (result ≡ Err (TreeLost roots.0 roots.1))
