-- What the parts of loading tell of contents, by what they answer.
use Rattle.std.specs.Prelude.{◌≡◌, ◌⊎◌, ◌↔◌, ℕ, List, Bool, true, false, Option, None, Some, Result, Ok, Err, IsSome, Contains, Vec, is_some, option_map, option_and_then}
use Rattle.std.specs.FinMap.{get}
use Rattle.record_names.specs.Names.{AreParts, File, stash_name, factor_name, leaf_name, file_name, is_account_name}
use Rattle.share_api.specs.Conditions.{IsOf}
use Rattle.share_api.specs.Contents.{Bytes, Contents}
use Rattle.share_api.specs.Replies.{AreListed}
use Rattle.share_api.specs.Seen.{ShareSeen}
use Rattle.share_api.specs.Steps.{view_of}
use Rattle.share_api.specs.declared.leaf.LeafView.{LeafView}
use Rattle.share_api.specs.declared.fault.ShareFault.{ShareFault}
use Rattle.share_api.specs.declared.fault.ShareFault.TheVariants as shares
use Rattle.share_api.specs.declared.step.Reply.{Reply}
use Rattle.share_api.specs.declared.step.Reply.TheVariants as replies
use Rattle.stash_format.specs.declared.contents.Contents.{Contents as Stash}
use Rattle.stash_format.specs.Record.{stash_at}
use Rattle.factor_files.specs.declared.factor.FactorRecord.{FactorRecord}
use Rattle.factor_files.specs.Record.{factor_at}
use Rattle.stored_home.specs.Holds.{HasStash, record_at}
use Rattle.stored_home.specs.Loaded.{Rows, Filed, IsRowOf, block_in}
use Rattle.stored_home.specs.Matching.{Matches}
use Rattle.stored_home.specs.declared.fault.StoreFault.{StoreFault}
use Rattle.stored_home.specs.declared.fault.StoreFault.TheVariants.{Failed, Damaged, NoMemory, TreeLost}
use Rattle.stored_home.specs.declared.stored.LostTree.{LostTree}
use Rattle.stored_home.specs.Coherent.{RowNames, FitsBlock}
use Rattle.home_recovery.specs.Damage.{IsBadStash, HasBadStash, LacksRecord}
use Rattle.stored_home.specs.Coherent.{IsOwnStash}
use Rattle.home_recovery.specs.Told.{told_fault}

-- ---- single reads

-- the reply of a step with this fault
abbrev pub IsFaultReply : StoreFault → Reply → Type 0
IsFaultReply Failed reply = reply ≡ replies.Failed
IsFaultReply NoMemory reply = reply ≡ replies.NoMemory
IsFaultReply (Damaged name) reply = ⊥
IsFaultReply (TreeLost host chip) reply = ⊥

-- the reply that a list of names stands for
abbrev pub AreNames : {Z : Type 0} → Result (Vec Bytes Z) StoreFault → Reply → Type 0
AreNames (Ok listed) reply =
    (names : List Bytes) × (labels : List ℕ) × AreListed names labels listed.items × (reply ≡ replies.Listed (names, labels))
AreNames (Err fault) reply = IsFaultReply fault reply

-- the bytes that were found are the record's
abbrev pub TellsBytes : Bytes → Result (Option Bytes) StoreFault → Contents → Type 0
TellsBytes name (Ok found) contents = get contents.records name ≡ found
TellsBytes name (Err fault) contents = Unit {0}

-- whether the leaf is there
abbrev pub TellsLeaf : ℕ → Result Bool StoreFault → Contents → Type 0
TellsLeaf label (Ok there) contents = is_some (get contents.leaves label) ≡ there
TellsLeaf label (Err fault) contents = Unit {0}

-- what anybody may know of the leaf
abbrev pub TellsView : ℕ → Result (Option LeafView) StoreFault → Contents → Type 0
TellsView label (Ok view) contents = option_map view_of (get contents.leaves label) ≡ view
TellsView label (Err fault) contents = Unit {0}

-- whether a leaf is there, by a look at it
abbrev pub there_of : Result (Option LeafView) ShareFault → Result Bool StoreFault
there_of (Ok None) = Ok false
there_of (Ok (Some view)) = Ok true
there_of (Err fault) = Err (told_fault fault)

-- the roots that a look at a leaf tells
abbrev pub loss_of : Result (Option LeafView) ShareFault → Result (Option LostTree) StoreFault
loss_of (Ok view) = Ok None
loss_of (Err (shares.TreeLost host chip)) = Ok (Some (record { host = host; chip = chip }))
loss_of (Err shares.Failed) = Err Failed
loss_of (Err (shares.Damaged name)) = Err (Damaged name)
loss_of (Err shares.NoMemory) = Err NoMemory

-- ---- a stash

-- what is read of the bytes of a stash's record
abbrev pub ReadsStash : Bytes → Bytes → Result Stash StoreFault → Type 0
ReadsStash account bytes (Ok stash) = (stash_at bytes ≡ Some stash) × IsOwnStash account stash
ReadsStash account bytes (Err (Damaged name)) = IsBadStash account (stash_at bytes) × (name ≡ stash_name account)
ReadsStash account bytes (Err NoMemory) = Unit {0}
ReadsStash account bytes (Err Failed) = ⊥
ReadsStash account bytes (Err (TreeLost host chip)) = ⊥

-- the same, where there may be no record
abbrev pub ReadsFound : Bytes → Option Bytes → Result (Option Stash) StoreFault → Type 0
ReadsFound account None (Ok None) = Unit {0}
ReadsFound account None (Ok (Some stash)) = ⊥
ReadsFound account None (Err fault) = ⊥
ReadsFound account (Some bytes) (Ok None) = ⊥
ReadsFound account (Some bytes) (Ok (Some stash)) = ReadsStash account bytes (Ok stash)
ReadsFound account (Some bytes) (Err fault) = ReadsStash account bytes (Err fault)

abbrev pub TellsStash : Bytes → Result (Option Stash) StoreFault → Contents → Type 0
TellsStash account (Ok stash) contents = HasStash contents.records account stash
TellsStash account (Err (Damaged name)) contents = HasBadStash contents.records account × (name ≡ stash_name account)
TellsStash account (Err Failed) contents = Unit {0}
TellsStash account (Err NoMemory) contents = Unit {0}
TellsStash account (Err (TreeLost host chip)) contents = Unit {0}

-- ---- a factor

-- the record is that of the label and the edition
abbrev pub FitsRow : Bytes → ℕ → FactorRecord → Type 0
FitsRow label edition row = (row.label ≡ label) × (row.edition ≡ edition)

-- what is read of a factor's record
abbrev pub ReadsRow : Bytes → Option Bytes → Bytes → ℕ → Result FactorRecord StoreFault → Type 0
ReadsRow name found label edition (Ok row) = (option_and_then factor_at found ≡ Some row) × FitsRow label edition row
ReadsRow name found label edition (Err (Damaged other)) =
    (other ≡ name) × ((row : FactorRecord) → option_and_then factor_at found ≡ Some row → FitsRow label edition row → ⊥)
ReadsRow name found label edition (Err NoMemory) = Unit {0}
ReadsRow name found label edition (Err Failed) = ⊥
ReadsRow name found label edition (Err (TreeLost host chip)) = ⊥

-- what it names is there, unless the tree is lost
abbrev pub HasItsLeaf : Bool → Contents → FactorRecord → Type 0
HasItsLeaf lost contents row = lost ≡ false → (tree : ℕ) → row.leaf ≡ Some tree → IsSome (get contents.leaves tree)

-- the record of the label and the edition lacks
abbrev pub LacksRowAt : Contents → Bytes → Bytes → ℕ → Bytes → Type 0
LacksRowAt contents account label edition name = (name ≡ factor_name account label edition)
    × ((row : FactorRecord) → record_at contents.records account label edition ≡ Some row → FitsRow label edition row → ⊥)

-- its leaf lacks
abbrev pub LacksLeafOf : Bool → Contents → Bytes → FactorRecord → Bytes → Type 0
LacksLeafOf lost contents account row name = (lost ≡ false)
    × ((tree : ℕ) × (row.leaf ≡ Some tree) × (get contents.leaves tree ≡ None) × (name ≡ leaf_name account tree))

abbrev pub TellsRow : Bytes → Bytes → ℕ → Result FactorRecord StoreFault → Contents → Type 0
TellsRow account label edition (Ok row) contents =
    (record_at contents.records account label edition ≡ Some row) × FitsRow label edition row
TellsRow account label edition (Err (Damaged name)) contents = LacksRowAt contents account label edition name
TellsRow account label edition (Err Failed) contents = Unit {0}
TellsRow account label edition (Err NoMemory) contents = Unit {0}
TellsRow account label edition (Err (TreeLost host chip)) contents = Unit {0}

abbrev pub TellsItsLeaf : Bytes → Bool → FactorRecord → Result Unit StoreFault → Contents → Type 0
TellsItsLeaf account lost row (Ok nothing) contents = HasItsLeaf lost contents row
TellsItsLeaf account lost row (Err (Damaged name)) contents = LacksLeafOf lost contents account row name
TellsItsLeaf account lost row (Err Failed) contents = Unit {0}
TellsItsLeaf account lost row (Err NoMemory) contents = Unit {0}
TellsItsLeaf account lost row (Err (TreeLost host chip)) contents = Unit {0}

-- a factor's record with its leaf
abbrev pub TellsFactor : Bytes → Bool → Bytes → ℕ → Result FactorRecord StoreFault → Contents → Type 0
TellsFactor account lost label edition (Ok row) contents =
    (record_at contents.records account label edition ≡ Some row) × FitsRow label edition row × HasItsLeaf lost contents row
TellsFactor account lost label edition (Err (Damaged name)) contents = LacksRowAt contents account label edition name
    ⊎ ((row : FactorRecord) × (record_at contents.records account label edition ≡ Some row) × FitsRow label edition row
    × LacksLeafOf lost contents account row name)
TellsFactor account lost label edition (Err Failed) contents = Unit {0}
TellsFactor account lost label edition (Err NoMemory) contents = Unit {0}
TellsFactor account lost label edition (Err (TreeLost host chip)) contents = Unit {0}

-- ---- all factors

-- The records are those that the stash names, and unless the tree is lost each leaf that they name is there.
pub record HasRowsOf (lost : Bool) (contents : Contents) (account : Bytes) (stash : Stash) (rows : Rows) : Type 0 where
  pub matches : (label : Bytes) → Matches (IsRowOf contents.records account label) (get stash.blocks label) (get rows label)
  pub leaves : lost ≡ false → (label : Bytes) (tree : ℕ) → RowNames rows label tree → IsSome (get contents.leaves tree)

abbrev pub TellsRows : Bytes → Bool → Stash → Result Rows StoreFault → Contents → Type 0
TellsRows account lost stash (Ok rows) contents = HasRowsOf lost contents account stash rows
TellsRows account lost stash (Err (Damaged name)) contents = LacksRecord lost contents account stash name
TellsRows account lost stash (Err Failed) contents = Unit {0}
TellsRows account lost stash (Err NoMemory) contents = Unit {0}
TellsRows account lost stash (Err (TreeLost host chip)) contents = Unit {0}

-- the stash's blocks have their records and there are no others, whatever the contents are
abbrev pub AreFitting : Option Stash → Rows → Type 0
AreFitting stash rows = (label : Bytes) → Matches (FitsBlock label) (block_in stash label) (get rows label)

-- ---- vault files

-- The files are those whose names are listed.
pub record AreFiles (account : Bytes) (listed : List Bytes) (files : Filed) : Type 0 where
  pub named : (name : Bytes) → IsSome (get files name) → AreParts (File account name)
  pub found : (name : Bytes) → AreParts (File account name)
      → IsSome (get files name) ↔ Contains listed (file_name account name)

-- a share of the account
pub record Serves (account : Bytes) (seen : ShareSeen) : Type 0 where
  pub plain : is_account_name account ≡ true
  pub own : IsOf seen.owner account
