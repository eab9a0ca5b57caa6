-- Which faults loading may answer, and how a share's answers are told.
use Rattle.std.specs.Prelude.{Option, None, Some, Result, Ok, Err}
use Rattle.share_api.specs.Contents.{Bytes}
use Rattle.share_api.specs.declared.fault.ShareFault.{ShareFault}
use Rattle.share_api.specs.declared.fault.ShareFault.TheVariants as shares
use Rattle.stored_home.specs.declared.fault.StoreFault.{StoreFault}
use Rattle.stored_home.specs.declared.fault.StoreFault.TheVariants.{Failed, Damaged, NoMemory, TreeLost}
use Rattle.stored_home.specs.declared.stored.LostTree.{LostTree}

-- the fault of a share as that of a store
abbrev pub told_fault : ShareFault → StoreFault
told_fault shares.Failed = Failed
told_fault (shares.TreeLost host chip) = TreeLost host chip
told_fault (shares.Damaged name) = Damaged name
told_fault shares.NoMemory = NoMemory

abbrev pub told : {A : Type 0} → Result A ShareFault → Result A StoreFault
told (Ok x) = Ok x
told (Err fault) = Err (told_fault fault)

-- no record of a leaf is refused: that is told of tries and resets alone
abbrev pub IsPlainFault : ShareFault → Type 0
IsPlainFault shares.Failed = Unit {0}
IsPlainFault (shares.TreeLost host chip) = Unit {0}
IsPlainFault (shares.Damaged name) = ⊥
IsPlainFault shares.NoMemory = Unit {0}

-- the roots of a lost tree
abbrev pub lost_tree : Option (Bytes × Bytes) → Option LostTree
lost_tree None = None
lost_tree (Some roots) = Some (record { host = roots.0; chip = roots.1 })

-- all but a lost tree
abbrev pub IsLoadFault : StoreFault → Type 0
IsLoadFault Failed = Unit {0}
IsLoadFault (Damaged name) = Unit {0}
IsLoadFault NoMemory = Unit {0}
IsLoadFault (TreeLost host chip) = ⊥

-- a device step failed, or there was no memory
abbrev pub IsStepFault : StoreFault → Type 0
IsStepFault Failed = Unit {0}
IsStepFault (Damaged name) = ⊥
IsStepFault NoMemory = Unit {0}
IsStepFault (TreeLost host chip) = ⊥

-- a record is damaged, or there was no memory
abbrev pub IsValueFault : StoreFault → Type 0
IsValueFault Failed = ⊥
IsValueFault (Damaged name) = Unit {0}
IsValueFault NoMemory = Unit {0}
IsValueFault (TreeLost host chip) = ⊥
