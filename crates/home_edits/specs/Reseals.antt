-- Sealing a block anew.
use Rattle.std.specs.Prelude.{◌≡◌, ◌<◌, ◌≤◌, None, Some, IsSome, take}
use Rattle.std.specs.FinMap.{get, len}
use Rattle.account_machine.specs.declared.factor.Factor.{Factor}
use Rattle.account_machine.specs.declared.factor.Kind.TheVariants.{Password}
use Rattle.account_machine.specs.declared.user.Durable.{Durable}
use Rattle.factor_files.specs.declared.factor.FactorRecord.{FactorRecord}
use Rattle.scrypt_kdf.specs.Derive.{derive}
use Rattle.secret_stash.specs.Edits.{with_block}
use Rattle.secret_stash.specs.Keys.{new_block}
use Rattle.share_api.specs.Contents.{Bytes, Contents}
use Rattle.stash_format.specs.declared.contents.Contents.{Contents as Stash}
use Rattle.stash_format.specs.Sizes.{payload_size, most_payload}
use Rattle.stored_home.specs.Holds.{Keys, record_at}
use Rattle.stored_home.specs.declared.stored.Stored.{Stored}
use Rattle.home_edits.specs.Puts.{IsStashPut}
use Rattle.home_edits.specs.declared.record_put.RecordPut.{RecordPut}

-- the stash takes a new block for a password's record, which has an edition below the next
pub record TakesReseal (label : Bytes) (row : FactorRecord) (stash : Stash) : Type 0 where
  pub there : IsSome stash.payload
  pub password : row.leaf ≡ None
  pub from : 1 ≤ row.edition
  pub below : row.edition < stash.next
  pub room : get stash.blocks label ≡ None → len stash.blocks < 32
  pub short : payload_size stash ≤ most_payload

-- the stash with the record's block sealed anew
abbrev pub with_resealed : Stash → Bytes → FactorRecord → Bytes → Bytes → Bytes → Stash
with_resealed stash label row key main iv = with_block stash label (new_block stash.account label row.edition
    (take 32 key) main iv)

-- the stash was made so, and its record
pub record IsResealed (account label key main iv : Bytes) (row : FactorRecord) (stash made : Stash)
    (put : RecordPut) : Type 0 where
  pub made_is : made ≡ with_resealed stash label row key main iv
  pub put_is : IsStashPut account (with_resealed stash label row key main iv) put

-- the loaded state is the one before with the block sealed anew
abbrev pub KeepsResealed : Bytes → Bytes → Bytes → Bytes → Stored → Stored → Type 0
KeepsResealed label key main iv stored after = (row : FactorRecord) (stash : Stash)
    → get stored.factors label ≡ Some row → stored.stash ≡ Some stash
    → after ≡ record stored { stash = Some (with_resealed stash label row key main iv) }

-- A password's block is sealed anew: the main key is the home's, and the key is derived of the password's secret with
-- its record's salt and cost. The durable part stays.
pub record Reseals (account label key main : Bytes) (contents : Contents) (keys : Keys) (before after : Durable)
    : Type 0 where
  pub factor : Factor
  pub held : get before.factors label ≡ Some factor
  pub is_password : factor.kind ≡ Password
  pub main_is : keys.main ≡ main
  pub key_is : (row : FactorRecord) → record_at contents.records account label factor.edition ≡ Some row
      → key ≡ derive factor.secret row.salt row.cost
  pub after_is : after ≡ before
