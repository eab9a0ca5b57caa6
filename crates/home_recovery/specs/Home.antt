-- What loading tells of a home, once names are listed.
use Rattle.std.specs.Prelude.{◌≡◌, ◌⊎◌, ◌↔◌, ℕ, List, Bool, false, ◌==◌, ◌&&◌, not, Option, None, Some, Result, Ok, Err, IsSome, Contains, bytes_eq}
use Rattle.std.specs.FinMap.{get}
use Rattle.record_names.specs.Names.{AreParts, File, stash_name, file_name}
use Rattle.share_api.specs.Contents.{Bytes, Contents}
use Rattle.stash_format.specs.declared.contents.Contents.{Contents as Stash}
use Rattle.factor_files.specs.declared.factor.FactorRecord.{FactorRecord}
use Rattle.stored_home.specs.Holds.{HasStash}
use Rattle.stored_home.specs.Loaded.{Rows, IsRowOf, block_in}
use Rattle.stored_home.specs.Matching.{Matches}
use Rattle.stored_home.specs.declared.fault.StoreFault.{StoreFault}
use Rattle.stored_home.specs.declared.fault.StoreFault.TheVariants.{Failed, Damaged, NoMemory, TreeLost}
use Rattle.stored_home.specs.declared.stored.Stored.{Stored}
use Rattle.stored_home.specs.Coherent.{RowNames}
use Rattle.home_recovery.specs.Damage.{HasBadStash, LacksRecord, IsDamaged, IsSoundHome}

-- a factor's label with its record
abbrev pub Row : Type 0
Row = Bytes × FactorRecord

-- both name one leaf
abbrev pub is_one_leaf : Option ℕ → Option ℕ → Bool
is_one_leaf None other = false
is_one_leaf (Some leaf) None = false
is_one_leaf (Some leaf) (Some other) = leaf == other

-- two labels' records name one leaf
abbrev pub is_rival : Row → Row → Bool
is_rival one other = is_one_leaf one.1.leaf other.1.leaf && not (bytes_eq one.0 other.0)

-- The records are those that the stash names, where there is one, and unless the tree is lost their leaves are there.
pub record HasRowsIn (lost : Bool) (contents : Contents) (account : Bytes) (stash : Option Stash) (rows : Rows) : Type 0 where
  pub matches : (label : Bytes) → Matches (IsRowOf contents.records account label) (block_in stash label) (get rows label)
  pub leaves : lost ≡ false → (label : Bytes) (tree : ℕ) → RowNames rows label tree → IsSome (get contents.leaves tree)

abbrev pub TellsFactors : Bytes → Bool → Option Stash → Result Rows StoreFault → Contents → Type 0
TellsFactors account lost stash (Ok rows) contents = HasRowsIn lost contents account stash rows
TellsFactors account lost stash (Err (Damaged name)) contents =
    (s : Stash) × (stash ≡ Some s) × LacksRecord lost contents account s name
TellsFactors account lost stash (Err Failed) contents = Unit {0}
TellsFactors account lost stash (Err NoMemory) contents = Unit {0}
TellsFactors account lost stash (Err (TreeLost host chip)) contents = Unit {0}

-- the stash and the factors' records are those of the contents, whatever vault files are there
abbrev pub TellsHome : Bytes → Bool → Result Stored StoreFault → Contents → Type 0
TellsHome account lost (Ok stored) contents =
    HasStash contents.records account stored.stash × HasRowsIn lost contents account stored.stash stored.factors
TellsHome account lost (Err (Damaged name)) contents =
    (HasBadStash contents.records account × (name ≡ stash_name account))
    ⊎ ((stash : Stash) × HasStash contents.records account (Some stash) × LacksRecord lost contents account stash name)
TellsHome account lost (Err Failed) contents = Unit {0}
TellsHome account lost (Err NoMemory) contents = Unit {0}
TellsHome account lost (Err (TreeLost host chip)) contents = Unit {0}

-- the vault files' records that are there are those listed
abbrev pub ListsFiles : Bytes → List Bytes → Contents → Type 0
ListsFiles account listed contents = (name : Bytes) → AreParts (File account name)
    → Contains listed (file_name account name) ↔ IsSome (get contents.records (file_name account name))

-- of contents that are so listed
abbrev pub TellsListed : Bytes → List Bytes → Bool → Result Stored StoreFault → Contents → Type 0
TellsListed account listed lost (Ok stored) contents = ListsFiles account listed contents → IsSoundHome lost contents account stored
TellsListed account listed lost (Err (Damaged name)) contents =
    ListsFiles account listed contents → IsDamaged lost contents account name
TellsListed account listed lost (Err Failed) contents = Unit {0}
TellsListed account listed lost (Err NoMemory) contents = Unit {0}
TellsListed account listed lost (Err (TreeLost host chip)) contents = Unit {0}
