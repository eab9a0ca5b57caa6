-- Removing a factor.
use Rattle.std.specs.Prelude.{◌≡◌, ◌≢◌, ◌≤◌, Some, IsSome}
use Rattle.std.specs.FinMap.{get, len}
use Rattle.account_machine.specs.declared.factor.Kind.TheVariants.{Password}
use Rattle.account_machine.specs.declared.user.Durable.{Durable}
use Rattle.factor_files.specs.declared.factor.FactorRecord.{FactorRecord}
use Rattle.share_api.specs.Contents.{Bytes, Contents}
use Rattle.stash_format.specs.declared.contents.Contents.{Contents as Stash}
use Rattle.stash_format.specs.Sizes.{payload_size, most_payload}
use Rattle.stored_home.specs.Bounds.{HasBounds}
use Rattle.stored_home.specs.Changes.{durable_without}
use Rattle.stored_home.specs.Holds.{Keys}
use Rattle.stored_home.specs.Loaded.{Rows}

-- the stash has a block of the label, and others
pub record LosesFactor (label : Bytes) (stash : Stash) : Type 0 where
  pub there : IsSome stash.payload
  pub found : IsSome (get stash.blocks label)
  pub others : 2 ≤ len stash.blocks
  pub short : payload_size stash ≤ most_payload

-- A factor is removed: after it the label has none, and a password is left.
pub record RemovesFactor (label : Bytes) (contents : Contents) (keys : Keys) (before after : Durable) : Type 0 where
  pub after_is : after ≡ durable_without before label
  pub bounds : HasBounds after

-- another factor is a password
pub record KeepsPassword (label : Bytes) (rows : Rows) : Type 0 where
  pub other : Bytes
  pub row : FactorRecord
  pub apart : other ≢ label
  pub there : get rows other ≡ Some row
  pub is_password : row.kind ≡ Password
