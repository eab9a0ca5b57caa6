-- How a home with factors may break what it keeps to.
use Rattle.std.specs.Prelude.{◌≡◌, ◌≢◌, ◌⊎◌, ℕ, ◌<◌, Some}
use Rattle.std.specs.FinMap.{get, len}
use Rattle.account_machine.specs.declared.factor.Kind.TheVariants.{Password}
use Rattle.factor_files.specs.declared.factor.FactorRecord.{FactorRecord}
use Rattle.share_api.specs.Contents.{Bytes}
use Rattle.stored_home.specs.Coherent.{RowNames, pin_rows}
use Rattle.stored_home.specs.Loaded.{Rows}
use Rattle.stored_home.specs.declared.stored.Stored.{Stored}

-- two factors' records name one leaf
pub record ShareLeaf (rows : Rows) : Type 0 where
  pub one : Bytes
  pub two : Bytes
  pub tree : ℕ
  pub apart : one ≢ two
  pub first : RowNames rows one tree
  pub second : RowNames rows two tree

-- no password, over 8 PINs, two PINs of one leaf, or over 256 vault files
abbrev pub BreaksBounds : Stored → Type 0
BreaksBounds loaded =
    ((label : Bytes) (row : FactorRecord) → get loaded.factors label ≡ Some row → row.kind ≢ Password)
    ⊎ (8 < pin_rows loaded.factors)
    ⊎ ShareLeaf loaded.factors
    ⊎ (256 < len loaded.files)
