-- What has to be known of a factor's new record, block and leaf, so that its edit is atomic.
use Rattle.std.specs.Prelude.{◌≡◌, ◌≢◌, ℕ, ◌+◌, ◌<◌, ◌^◌, ◌⊎◌, Bool, Option, Some, IsSome, IsTrue}
use Rattle.std.specs.FinMap.{get}
use Rattle.account_machine.specs.declared.factor.Kind.TheVariants.{Pin}
use Rattle.account_machine.specs.declared.factor.Factor.{Factor}
use Rattle.account_machine.specs.declared.user.Durable.{Durable}
use Rattle.record_names.specs.Names.{is_factor_label}
use Rattle.share_api.specs.Contents.{Bytes, Contents, Records, Leaves, settled}
use Rattle.sealed_text.specs.declared.sealed.Sealed.{Sealed}
use Rattle.stash_format.specs.declared.block.Block.{Block}
use Rattle.stash_format.specs.declared.contents.Contents.{Contents as Stash}
use Rattle.stash_format.specs.Resets.{Resets}
use Rattle.stash_format.specs.Record.{stash_at}
use Rattle.factor_files.specs.declared.factor.FactorRecord.{FactorRecord}
use Rattle.factor_files.specs.Record.{factor_at}
use Rattle.stored_home.specs.Bounds.{HasBounds}
use Rattle.stored_home.specs.Changes.{durable_with, stash_with}
use Rattle.stored_home.specs.Holds.{Keys, Factors, OpensBy, NamesLeaf, HoldsFiles, HoldsPayload, HoldsBy, HasStash, HoldsUnder}

-- the payload keeps the entries of the PINs at the other labels
abbrev pub KeepsEntries : Durable → Bytes → Resets → Resets → Type 0
KeepsEntries durable label old new = (q : Bytes) (f : Factor) → q ≢ label → get durable.factors q ≡ Some f
    → f.kind ≡ Pin → get new q ≡ get old q

-- no other label's record names a leaf that this row names
abbrev pub IsOwnLeaf : Records → Bytes → Factors → Bytes → FactorRecord → Type 0
IsOwnLeaf records account factors label row = (q : Bytes) (tree : ℕ) → row.leaf ≡ Some tree
    → NamesLeaf records account factors q tree → q ≡ label

-- What is known of a factor's new record and of the stash with its block.
pub record IsAdded (lost : Bool) (account : Bytes) (keys : Keys) (leaves : Leaves) (resets : Resets) (label : Bytes)
    (factor : Factor) (stash : Stash) (payload : Option Sealed) (block : Block) (row : FactorRecord)
    (row_bytes stash_bytes : Bytes) : Type 0 where
  pub labelled : IsTrue (is_factor_label label)
  pub edition : factor.edition ≡ stash.next
  pub room : stash.next + 1 < 2 ^ 64
  pub row_read : factor_at row_bytes ≡ Some row
  pub row_label : row.label ≡ label
  pub row_edition : row.edition ≡ stash.next
  pub row_kind : row.kind ≡ factor.kind
  pub block_edition : block.edition ≡ stash.next
  pub opens : OpensBy lost factor.kind leaves resets account keys.main label block row factor
  pub there : IsSome payload
  pub opened : HoldsPayload account keys resets payload
  pub stash_read : stash_at stash_bytes ≡ Some (stash_with stash payload label block)

-- The new record and the stash with its block are made of what the contents hold.
pub record Adds (lost : Bool) (account : Bytes) (keys : Keys) (contents : Contents) (durable : Durable) (stash : Stash)
    (label : Bytes) (factor : Factor) (payload : Option Sealed) (block : Block) (row : FactorRecord)
    (row_bytes stash_bytes : Bytes) (resets : Resets) : Type 0 where
  pub there : HasStash contents.records account (Some stash)
  pub holds : HoldsBy lost (settled contents) account durable keys stash
  pub added : IsAdded lost account keys (settled contents).leaves resets label factor stash payload block row row_bytes stash_bytes
  pub entries : KeepsEntries durable label holds.resets resets
  pub own : IsOwnLeaf contents.records account durable.factors label row
  pub bounds : HasBounds (durable_with durable label factor)
  pub files : HoldsFiles contents.records keys.vault account durable.files

-- the contents hold one of two durable parts
abbrev pub HoldsEither : Bool → Bytes → Keys → Durable → Durable → Contents → Type 0
HoldsEither lost account keys before after contents =
    HoldsUnder lost contents account before keys ⊎ HoldsUnder lost contents account after keys
