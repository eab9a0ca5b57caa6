-- What a secret does to a password's block.
use Rattle.std.specs.Prelude.{◌≡◌, Some, IsSomeAnd, Ok, Err, take}
use Rattle.std.specs.FinMap.{get}
use Rattle.account_machine.specs.declared.factor.Kind.TheVariants.{Password}
use Rattle.factor_files.specs.declared.factor.FactorRecord.{FactorRecord}
use Rattle.scrypt_kdf.specs.Derive.{derive}
use Rattle.secret_stash.specs.Keys.{opened_block}
use Rattle.secret_stash.specs.declared.fault.StashFault.TheVariants.{BadTag}
use Rattle.share_api.specs.Contents.{Bytes}
use Rattle.stash_format.specs.declared.block.Block.{Block}
use Rattle.stash_format.specs.declared.contents.Contents.{Contents as Stash}
use Rattle.stored_home.specs.Coherent.{FitsBlock}
use Rattle.stored_home.specs.Loaded.{block_in}
use Rattle.stored_home.specs.Matching.{Matches}
use Rattle.stored_home.specs.declared.derived.Derived.{Derived}
use Rattle.stored_home.specs.declared.stored.Stored.{Stored}
use Rattle.turn_secrets.specs.Opening.{wrap_key, HasTag, GivesMain}
use Rattle.turn_secrets.specs.declared.check.Checked.{Checked}
use Rattle.turn_secrets.specs.declared.check.Checked.TheVariants.{Right, Wrong, Starved}

-- each block that is loaded has its record, and there are no others
abbrev pub HaveRows : Stored → Type 0
HaveRows stored = (label : Bytes) → Matches (FitsBlock label) (block_in stored.stash label) (get stored.factors label)

-- the label's factor is a password
abbrev pub IsPasswordAt : Stored → Bytes → Type 0
IsPasswordAt stored label = IsSomeAnd (get stored.factors label) (λ row. row.kind ≡ Password)

-- the key is derived of this secret
abbrev pub IsOfSecret : Bytes → Derived → Type 0
IsOfSecret secret derived = derived.key ≡ derive secret derived.salt derived.cost

-- What is loaded of a label's password: the stash with its block, and its record.
pub record LoadsPassword (stored : Stored) (label : Bytes) : Type 0 where
  pub stash : Stash
  pub stash_is : stored.stash ≡ Some stash
  pub row : FactorRecord
  pub row_is : get stored.factors label ≡ Some row
  pub is_password : row.kind ≡ Password
  pub block : Block
  pub block_is : get stash.blocks label ≡ Some block
  pub fits : FitsBlock label block row

-- The password's block has the tag of the secret's wrap key, and opens under it to this main key. The key is derived of
-- the secret with the salt and the cost of the password's record.
pub record IsRight (stored : Stored) (label secret key main : Bytes) : Type 0 where
  pub loads : LoadsPassword stored label
  pub key_is : key ≡ derive secret loads.row.salt loads.row.cost
  pub gives : GivesMain (wrap_key secret loads.row) loads.stash.account label loads.block main

-- The password's block has another tag than that of the secret's wrap key.
pub record IsWrong (stored : Stored) (label secret : Bytes) : Type 0 where
  pub loads : LoadsPassword stored label
  pub differs : HasTag (wrap_key secret loads.row) loads.stash.account label loads.block → ⊥

abbrev pub IsChecked : Stored → Bytes → Bytes → Checked → Type 0
IsChecked stored label secret (Right key main) = IsRight stored label secret key main
IsChecked stored label secret Wrong = IsWrong stored label secret
IsChecked stored label secret Starved = Unit {0}

-- what the label's block is under a key
abbrev pub IsOpened : Stash → Bytes → Bytes → Checked → Type 0
IsOpened stash label key (Right same main) = (same ≡ key) × (opened_block stash label (take 32 key) ≡ Ok main)
IsOpened stash label key Wrong = opened_block stash label (take 32 key) ≡ Err BadTag
IsOpened stash label key Starved = Unit {0}
