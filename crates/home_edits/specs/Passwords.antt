-- Passwords: their records and blocks, and what their edits ask.
use Rattle.std.specs.Prelude.{◌≡◌, ℕ, ◌-◌, ◌<◌, ◌≤◌, ◌^◌, List, None, IsSome, take}
use Rattle.std.specs.FinMap.{get, len, insert}
use Rattle.account_machine.specs.declared.factor.Kind.TheVariants.{Password}
use Rattle.account_machine.specs.declared.user.Durable.{Durable}
use Rattle.account_machine.specs.Effect.{with_factor}
use Rattle.factor_files.specs.declared.factor.FactorRecord.{FactorRecord}
use Rattle.scrypt_kdf.specs.Derive.{derive}
use Rattle.secret_stash.specs.Keys.{new_block}
use Rattle.share_api.specs.Contents.{Bytes, Contents}
use Rattle.stash_format.specs.declared.block.Block.{Block}
use Rattle.stash_format.specs.declared.contents.Contents.{Contents as Stash}
use Rattle.stash_format.specs.Sizes.{payload_size, most_payload}
use Rattle.stored_home.specs.Bounds.{HasBounds}
use Rattle.stored_home.specs.Changes.{stash_with}
use Rattle.stored_home.specs.Holds.{Keys}
use Rattle.stored_home.specs.Loaded.{Rows}
use Rattle.home_edits.specs.Puts.{IsStashPut, IsRowPut}
use Rattle.stored_home.specs.declared.derived.Derived.{Derived}
use Rattle.home_edits.specs.declared.factor_puts.FactorPuts.{FactorPuts}

-- the record of a password of this edition, with the salt and cost that its key was derived with
abbrev pub password_row : Bytes → ℕ → Derived → FactorRecord
password_row label edition derived =
    record { kind = Password; label = label; edition = edition; cost = derived.cost; salt = derived.salt; leaf = None }

-- the block of a password of the stash's next edition: the main key under its wrap key
abbrev pub password_block : Stash → Bytes → Derived → Bytes → Bytes → Block
password_block stash label derived main iv = new_block stash.account label stash.next (take 32 derived.key) main iv

-- the stash with that block, and the same payload
abbrev pub with_password : Stash → Bytes → Derived → Bytes → Bytes → Stash
with_password stash label derived main iv =
    stash_with stash stash.payload label (password_block stash label derived main iv)

-- the stash is of a home with factors that takes a block of the label, under its next edition
pub record TakesFactor (label : Bytes) (stash : Stash) : Type 0 where
  pub there : IsSome stash.payload
  pub from : 1 ≤ stash.next
  pub below : stash.next < 2 ^ 64 - 1
  pub room : get stash.blocks label ≡ None → len stash.blocks < 32
  pub short : payload_size stash ≤ most_payload

-- A password is set: the main key is the home's, the key is derived of the secret, and after it the label's factor is
-- a password with this secret, of the next edition.
pub record SetsPassword (label : Bytes) (derived : Derived) (main : Bytes) (contents : Contents) (keys : Keys)
    (before after : Durable) : Type 0 where
  pub secret : Bytes
  pub schedule : List (ℕ × ℕ)
  pub main_is : keys.main ≡ main
  pub key_is : derived.key ≡ derive secret derived.salt derived.cost
  pub after_is : after ≡ with_factor before label Password secret schedule
  pub bounds : HasBounds after

-- what a factor's edit has made before its first step: the loaded state after it, and the two records
pub record AreFactorPuts (account : Bytes) (rows : Rows) (stash : Stash) (row : FactorRecord) (puts : FactorPuts)
    : Type 0 where
  pub stash_is : puts.stash ≡ stash
  pub factors_are : puts.factors ≡ insert rows row.label row
  pub row_put : IsRowPut account row puts.row_put
  pub stash_put : IsStashPut account stash puts.stash_put
