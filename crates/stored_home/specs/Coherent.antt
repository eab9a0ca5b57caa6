-- That what is loaded of an account fits together, whatever its contents are.
use Rattle.std.specs.Prelude.{◌≡◌, ℕ, ◌≤◌, Some, IsSome, IfSome, count_by}
use Rattle.std.specs.FinMap.{get, len, values}
use Rattle.account_machine.specs.Outline.{is_pin_kind}
use Rattle.account_machine.specs.declared.factor.Kind.TheVariants.{Password}
use Rattle.factor_files.specs.declared.factor.FactorRecord.{FactorRecord}
use Rattle.factor_files.specs.Record.{IsFactor}
use Rattle.record_names.specs.Names.{AreParts, File}
use Rattle.share_api.specs.Contents.{Bytes}
use Rattle.stash_format.specs.Kept.{HasBoth}
use Rattle.stash_format.specs.Sizes.{payload_size, most_payload}
use Rattle.stash_format.specs.declared.block.Block.{Block}
use Rattle.stash_format.specs.declared.contents.Contents.{Contents as Stash}
use Rattle.stored_home.specs.Loaded.{Rows, HasFactors, block_in}
use Rattle.stored_home.specs.Matching.{Matches}
use Rattle.stored_home.specs.declared.stored.Stored.{Stored}

-- The stash is the account's, and its payload is no longer than one of the grammar.
pub record IsOwnStash (account : Bytes) (stash : Stash) : Type 0 where
  pub account_is : stash.account ≡ account
  pub short : payload_size stash ≤ most_payload

-- how many of the factors are PINs
abbrev pub pin_rows : Rows → ℕ
pin_rows rows = count_by (λ row. is_pin_kind row.kind) (values rows)

-- the label's factor has a record that names this leaf
pub record RowNames (rows : Rows) (label : Bytes) (tree : ℕ) : Type 0 where
  pub row : FactorRecord
  pub there : get rows label ≡ Some row
  pub names : row.leaf ≡ Some tree

-- no two factors' records name one leaf
abbrev pub HaveOwnLeaves : Rows → Type 0
HaveOwnLeaves rows = (one two : Bytes) (tree : ℕ) → RowNames rows one tree → RowNames rows two tree → one ≡ two

-- There is a password, there are at most 8 PINs, each with its own leaf, and at most 256 vault files.
pub record KeepsBounds (loaded : Stored) : Type 0 where
  pub label : Bytes
  pub row : FactorRecord
  pub there : get loaded.factors label ≡ Some row
  pub is_password : row.kind ≡ Password
  pub pins : pin_rows loaded.factors ≤ 8
  pub own : HaveOwnLeaves loaded.factors
  pub files : len loaded.files ≤ 256

-- the record is one of the block's label and edition
pub record FitsBlock (label : Bytes) (block : Block) (row : FactorRecord) : Type 0 where
  pub plain : IsFactor row
  pub label_is : row.label ≡ label
  pub edition_is : row.edition ≡ block.edition

-- vault files that are there have names of files
abbrev pub AreFiles : Bytes → Stored → Type 0
AreFiles account stored = (name : Bytes) → IsSome (get stored.files name) → AreParts (File account name)

-- The stash is the account's and may be written, each block has its record and there are no others, a home with
-- factors keeps its bounds, and vault files have names of files.
pub record IsCoherent (account : Bytes) (stored : Stored) : Type 0 where
  pub stash : IfSome stored.stash (IsOwnStash account)
  pub both : IfSome stored.stash HasBoth
  pub rows : (label : Bytes) → Matches (FitsBlock label) (block_in stored.stash label) (get stored.factors label)
  pub bounds : HasFactors stored → KeepsBounds stored
  pub files : AreFiles account stored
