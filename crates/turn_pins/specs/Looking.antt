-- Looking at a PIN's leaf before a step on it.
use Rattle.std.specs.Prelude.{◌≡◌, ◌⊎◌, ℕ, Option, None, Some, Result, Ok, Err, option_map}
use Rattle.std.specs.FinMap.{get}
use Rattle.account_machine.specs.declared.answer.Answer.{Answer}
use Rattle.account_machine.specs.declared.answer.Answer.TheVariants as answers
use Rattle.home_edits.specs.Edits.{told_fault}
use Rattle.record_names.specs.Names.{leaf_name}
use Rattle.share_api.specs.Contents.{Bytes, Contents}
use Rattle.share_api.specs.Steps.{view_of}
use Rattle.share_api.specs.declared.fault.ShareFault.{ShareFault}
use Rattle.share_api.specs.declared.leaf.LeafView.{LeafView}
use Rattle.stored_home.specs.declared.fault.StoreFault.{StoreFault}
use Rattle.stored_home.specs.declared.fault.StoreFault.TheVariants.{Failed, Damaged, NoMemory, TreeLost}
use Rattle.user_state.specs.declared.state.Doubt.{Doubt}
use Rattle.user_state.specs.declared.state.Doubt.TheVariants.{Editions, File, Leaf}

-- what a look at a leaf shows. A leaf that isn't there is damaged
abbrev pub view_told : Bytes → ℕ → Result (Option LeafView) ShareFault → Result LeafView StoreFault
view_told account tree (Ok (Some view)) = Ok view
view_told account tree (Ok None) = Err (Damaged (leaf_name account tree))
view_told account tree (Err fault) = Err (told_fault fault)

-- what it tells of contents
abbrev pub TellsView : Bytes → ℕ → Result LeafView StoreFault → Contents → Type 0
TellsView account tree (Ok view) contents = Some view ≡ option_map view_of (get contents.leaves tree)
TellsView account tree (Err (Damaged name)) contents =
    (name ≡ leaf_name account tree) × (get contents.leaves tree ≡ None)
TellsView account tree (Err Failed) contents = Unit {0}
TellsView account tree (Err NoMemory) contents = Unit {0}
TellsView account tree (Err (TreeLost host chip)) contents = Unit {0}

-- the faults of a look where the tree isn't lost
abbrev pub IsLookFault : StoreFault → Type 0
IsLookFault Failed = Unit {0}
IsLookFault (Damaged name) = Unit {0}
IsLookFault NoMemory = ⊥
IsLookFault (TreeLost host chip) = ⊥

-- How a turn is answered that was refused before anything changed. What a leaf showed is what tells the two durable
-- parts apart once a step on it fails, so where it can't be seen no step is made: that is answered as want of memory.
abbrev pub IsRefusal : StoreFault → Answer → Type 0
IsRefusal Failed answer = answer ≡ answers.NoMemory
IsRefusal (Damaged name) answer = (answer ≡ answers.Damaged name) ⊎ (answer ≡ answers.NoMemory)
IsRefusal NoMemory answer = answer ≡ answers.NoMemory
IsRefusal (TreeLost host chip) answer = answer ≡ answers.TreeLost host chip

-- what the label's leaf showed tells the two durable parts apart
abbrev pub IsLeafDoubt : Bytes → Doubt → Type 0
IsLeafDoubt label Editions = ⊥
IsLeafDoubt label (File name bytes) = ⊥
IsLeafDoubt label (Leaf named tree view) = named ≡ label

-- what some leaf showed tells them apart
abbrev pub IsOfLeaf : Doubt → Type 0
IsOfLeaf Editions = ⊥
IsOfLeaf (File name bytes) = ⊥
IsOfLeaf (Leaf label tree view) = Unit {0}
