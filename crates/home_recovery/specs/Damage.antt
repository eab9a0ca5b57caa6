-- What makes a record of an account damaged.
use Rattle.std.specs.Prelude.{◌≡◌, ◌≢◌, ◌⊎◌, ℕ, ◌<◌, Bool, false, Option, None, Some, IsSome, IfSome}
use Rattle.std.specs.FinMap.{get}
use Rattle.record_names.specs.Names.{AreParts, File, stash_name, factor_name, leaf_name}
use Rattle.stash_format.specs.Sizes.{text_size}
use Rattle.share_api.specs.Contents.{Bytes, Contents, Records}
use Rattle.stash_format.specs.declared.block.Block.{Block}
use Rattle.stash_format.specs.declared.contents.Contents.{Contents as Stash}
use Rattle.stash_format.specs.Record.{stash_at}
use Rattle.factor_files.specs.declared.factor.FactorRecord.{FactorRecord}
use Rattle.stored_home.specs.Holds.{HasStash}
use Rattle.stored_home.specs.Coherent.{IsOwnStash}
use Rattle.stored_home.specs.Loaded.{IsLoaded, IsRowOf, HasFactors, NamesTree}
use Rattle.stored_home.specs.declared.stored.Stored.{Stored}
use Rattle.home_recovery.specs.Bounds.{BreaksBounds}
use Rattle.stored_home.specs.Coherent.{KeepsBounds}

-- the bytes are no stash, or one of another account, or one with too long a payload
abbrev pub IsBadStash : Bytes → Option Stash → Type 0
IsBadStash account None = Unit {0}
IsBadStash account (Some stash) = (stash.account ≢ account) ⊎ (945 < text_size stash.payload)

-- the stash's record is bad
pub record HasBadStash (records : Records) (account : Bytes) : Type 0 where
  pub bytes : Bytes
  pub there : get records (stash_name account) ≡ Some bytes
  pub bad : IsBadStash account (stash_at bytes)

-- A block's factor record isn't there, is outside its grammar, or has another label or edition.
pub record LacksRow (records : Records) (account : Bytes) (stash : Stash) (name : Bytes) : Type 0 where
  pub label : Bytes
  pub block : Block
  pub found : get stash.blocks label ≡ Some block
  pub lacks : (row : FactorRecord) → IsRowOf records account label block row → ⊥
  pub name_is : name ≡ factor_name account label block.edition

-- a block's factor record names a leaf that isn't there
pub record LacksLeaf (contents : Contents) (account : Bytes) (stash : Stash) (name : Bytes) : Type 0 where
  pub label : Bytes
  pub block : Block
  pub found : get stash.blocks label ≡ Some block
  pub row : FactorRecord
  pub is_row : IsRowOf contents.records account label block row
  pub tree : ℕ
  pub names : row.leaf ≡ Some tree
  pub gone : get contents.leaves tree ≡ None
  pub name_is : name ≡ leaf_name account tree

-- a row or, unless the tree is lost, a leaf of the stash is lacking
abbrev pub LacksRecord : Bool → Contents → Bytes → Stash → Bytes → Type 0
LacksRecord lost contents account stash name =
    LacksRow contents.records account stash name ⊎ (lost ≡ false × LacksLeaf contents account stash name)

-- the loaded state is that of the contents, and its vault files have names of files
pub record IsWhole (contents : Contents) (account : Bytes) (loaded : Stored) : Type 0 where
  pub is_loaded : IsLoaded contents account loaded
  pub named : (name : Bytes) → IsSome (get loaded.files name) → AreParts (File account name)

-- a home with factors breaks its bounds
pub record IsUnsound (contents : Contents) (account : Bytes) : Type 0 where
  pub loaded : Stored
  pub whole : IsWhole contents account loaded
  pub factors : HasFactors loaded
  pub breaks : BreaksBounds loaded

-- The record of this name is damaged: a row for each cause.
abbrev pub IsDamaged : Bool → Contents → Bytes → Bytes → Type 0
IsDamaged lost contents account name =
    (HasBadStash contents.records account × (name ≡ stash_name account))
    ⊎ ((stash : Stash) × HasStash contents.records account (Some stash) × LacksRecord lost contents account stash name)
    ⊎ (IsUnsound contents account × (name ≡ stash_name account))

-- Nothing of the loaded state is damaged: the stash is the account's, bounds are kept, and unless the tree is lost each
-- leaf that a factor's record names is there.
pub record IsSoundHome (lost : Bool) (contents : Contents) (account : Bytes) (loaded : Stored) : Type 0 where
  pub whole : IsWhole contents account loaded
  pub stash : IfSome loaded.stash (IsOwnStash account)
  pub bounds : HasFactors loaded → KeepsBounds loaded
  pub leaves : lost ≡ false → (tree : ℕ) → NamesTree loaded tree → IsSome (get contents.leaves tree)
