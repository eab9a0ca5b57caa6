-- The loaded state of contents.
use Rattle.std.specs.Prelude.{◌≡◌, ◌↔◌, ◌⊎◌, ℕ, Bool, false, Option, None, Some, IsSome, IsSomeAnd}
use Rattle.std.specs.Ordering.{nat_cmp}
use Rattle.std.specs.Cmp.Lexicographic.{slice_cmp}
use Rattle.std.specs.FinMap.{FinMap, get}
use Rattle.record_names.specs.Names.{AreParts, File, stash_name, factor_name, file_name}
use Rattle.share_api.specs.Conditions.{IsFiledName}
use Rattle.share_api.specs.Contents.{Bytes, Contents, Records}
use Rattle.stash_format.specs.declared.block.Block.{Block}
use Rattle.stash_format.specs.declared.contents.Contents.{Contents as Stash}
use Rattle.factor_files.specs.declared.factor.FactorRecord.{FactorRecord}
use Rattle.stored_home.specs.declared.stored.Kept.{Kept}
use Rattle.stored_home.specs.declared.stored.Stored.{Stored}
use Rattle.stored_home.specs.Matching.{Matches}
use Rattle.stored_home.specs.Holds.{HasStash, record_at}

-- factor records by label
abbrev pub Rows : Type 0
Rows = FinMap (slice_cmp nat_cmp) FactorRecord

-- vault files that are there, by name
abbrev pub Filed : Type 0
Filed = FinMap (slice_cmp nat_cmp) Kept

-- the block of a label
abbrev pub block_in : Option Stash → Bytes → Option Block
block_in None label = None
block_in (Some stash) label = get stash.blocks label

-- the factor record that a block's label and edition name
pub record IsRowOf (records : Records) (account label : Bytes) (block : Block) (row : FactorRecord) : Type 0 where
  pub label_is : row.label ≡ label
  pub edition_is : row.edition ≡ block.edition
  pub read : record_at records account label block.edition ≡ Some row

-- what loading gives
pub record IsLoaded (contents : Contents) (account : Bytes) (loaded : Stored) : Type 0 where
  pub stash : HasStash contents.records account loaded.stash
  pub rows : (label : Bytes) → Matches (IsRowOf contents.records account label)
      (block_in loaded.stash label) (get loaded.factors label)
  pub files : (name : Bytes) → AreParts (File account name)
      → IsSome (get loaded.files name) ↔ IsSome (get contents.records (file_name account name))

-- the home has factors
abbrev pub HasFactors : Stored → Type 0
HasFactors loaded = IsSomeAnd loaded.stash (λ stash. IsSome stash.payload)

-- the loaded state names the record: vault files where the home has factors
abbrev pub IsNamed : Bytes → Stored → Bytes → Type 0
IsNamed account loaded name =
    (name ≡ stash_name account)
    ⊎ ((label : Bytes) × (row : FactorRecord) × (get loaded.factors label ≡ Some row)
    × (name ≡ factor_name account label row.edition))
    ⊎ (HasFactors loaded × ((file : Bytes) × AreParts (File account file) × IsSome (get loaded.files file)
    × (name ≡ file_name account file)))

-- the loaded state names the leaf
abbrev pub NamesTree : Stored → ℕ → Type 0
NamesTree loaded tree =
    (label : Bytes) × (row : FactorRecord) × (get loaded.factors label ≡ Some row) × (row.leaf ≡ Some tree)

-- nothing of the account is there that the loaded state doesn't name
pub record IsTidy (lost : Bool) (contents : Contents) (account : Bytes) (loaded : Stored) : Type 0 where
  pub records : (name : Bytes) → IsFiledName account name → IsSome (get contents.records name)
      → IsNamed account loaded name
  pub leaves : lost ≡ false → (tree : ℕ) → IsSome (get contents.leaves tree) → NamesTree loaded tree

-- the loaded state is that of the contents, nothing else is there, and no leaf is in doubt
pub record IsKept (lost : Bool) (contents : Contents) (account : Bytes) (loaded : Stored) : Type 0 where
  pub is_loaded : IsLoaded contents account loaded
  pub tidy : IsTidy lost contents account loaded
  pub clear : contents.doubt ≡ None
