-- The faults of an edit of PINs.
use Rattle.std.specs.Prelude.{◌≡◌, ◌⊎◌, ℕ, Option, None, Some, Result, Ok, Err}
use Rattle.record_names.specs.Names.{stash_name, factor_name, leaf_name}
use Rattle.share_api.specs.Contents.{Bytes}
use Rattle.stored_home.specs.declared.fault.StoreFault.{StoreFault}
use Rattle.stored_home.specs.declared.fault.StoreFault.TheVariants.{Failed, Damaged, NoMemory, TreeLost}
use Rattle.stored_home.specs.declared.stored.LostTree.{LostTree}

-- the faults of an edit that reads nothing
abbrev pub IsPinFault : StoreFault → Type 0
IsPinFault Failed = Unit {0}
IsPinFault (Damaged name) = ⊥
IsPinFault NoMemory = Unit {0}
IsPinFault (TreeLost host chip) = Unit {0}

-- the faults of the try of a PIN whose leaf has this label
abbrev pub IsTryFault : ℕ → StoreFault → Type 0
IsTryFault tree Failed = Unit {0}
IsTryFault tree (Damaged name) = (account : Bytes) × (name ≡ leaf_name account tree)
IsTryFault tree NoMemory = ⊥
IsTryFault tree (TreeLost host chip) = Unit {0}

-- the faults of opening the stash's payload
abbrev pub IsStashFault : Bytes → StoreFault → Type 0
IsStashFault account Failed = ⊥
IsStashFault account (Damaged name) = name ≡ stash_name account
IsStashFault account NoMemory = Unit {0}
IsStashFault account (TreeLost host chip) = ⊥

-- the faults of setting back a PIN whose record has this edition and names this leaf: a damaged record is the stash's,
-- the PIN's or the leaf's
abbrev pub IsResetFault : Bytes → Bytes → ℕ → ℕ → StoreFault → Type 0
IsResetFault account label edition tree Failed = Unit {0}
IsResetFault account label edition tree (Damaged name) =
    (name ≡ stash_name account) ⊎ (name ≡ factor_name account label edition)
    ⊎ ((owner : Bytes) × (name ≡ leaf_name owner tree))
IsResetFault account label edition tree NoMemory = Unit {0}
IsResetFault account label edition tree (TreeLost host chip) = Unit {0}

-- the faults of naming a new leaf in its PIN's record: the leaf is damaged where a loaded record names it already
abbrev pub IsNamedFault : Bytes → ℕ → StoreFault → Type 0
IsNamedFault account tree Failed = ⊥
IsNamedFault account tree (Damaged name) = name ≡ leaf_name account tree
IsNamedFault account tree NoMemory = Unit {0}
IsNamedFault account tree (TreeLost host chip) = ⊥

-- the damaged record is the account's stash or a leaf
abbrev pub IsStashOrLeaf : Bytes → Bytes → Type 0
IsStashOrLeaf account name = (name ≡ stash_name account) ⊎ ((tree : ℕ) × (name ≡ leaf_name account tree))

-- the faults of an edit that sets a PIN where the tree isn't lost
abbrev pub IsHeldFault : Bytes → StoreFault → Type 0
IsHeldFault account Failed = Unit {0}
IsHeldFault account (Damaged name) = IsStashOrLeaf account name
IsHeldFault account NoMemory = Unit {0}
IsHeldFault account (TreeLost host chip) = ⊥

-- the faults of an edit that sets a PIN: a damaged record is the stash or the new leaf
abbrev pub IsSetFault : Bytes → StoreFault → Type 0
IsSetFault account Failed = Unit {0}
IsSetFault account (Damaged name) = IsStashOrLeaf account name
IsSetFault account NoMemory = Unit {0}
IsSetFault account (TreeLost host chip) = Unit {0}

-- an edit of a PIN is refused where the tree is lost, with its roots
abbrev pub tree_test : Option LostTree → Result Unit StoreFault
tree_test None = Ok tt
tree_test (Some tree) = Err (TreeLost tree.host tree.chip)

module _ {A : Type 0} where
  -- a lost tree is told exactly where the tree was lost when the home was loaded, with its roots
  abbrev pub TellsLost : Option LostTree → Result A StoreFault → Type 0
  TellsLost None result = (host chip : Bytes) → result ≡ Err (TreeLost host chip) → ⊥
  TellsLost (Some tree) result = result ≡ Err (TreeLost tree.host tree.chip)
