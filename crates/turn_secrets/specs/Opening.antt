-- Which secrets open a password's block.
use Rattle.std.specs.Prelude.{◌≡◌, ◌↔◌, List, Bool, Option, Some, Contains}
use Rattle.std.specs.FinMap.{get}
use Rattle.account_machine.specs.declared.factor.Factor.{Factor}
use Rattle.account_machine.specs.declared.factor.Kind.TheVariants.{Password}
use Rattle.account_machine.specs.declared.user.Durable.{Durable}
use Rattle.factor_files.specs.declared.factor.FactorRecord.{FactorRecord}
use Rattle.gcm_seal.specs.Gcm.{tag_of}
use Rattle.scrypt_kdf.specs.Derive.{derive_32}
use Rattle.sealed_text.specs.OpeningSealed.{Opens}
use Rattle.share_api.specs.Contents.{Bytes, Contents, settled}
use Rattle.stash_format.specs.Forms.{block_extra, main_of}
use Rattle.stash_format.specs.declared.block.Block.{Block}
use Rattle.stash_format.specs.declared.contents.Contents.{Contents as Stash}
use Rattle.stored_home.specs.Clean.{IsClean, IsTurnSecret}
use Rattle.stored_home.specs.Holds.{Keys, HasStash, HoldsBy, record_at}

-- the wrap key of a password, derived of a secret with the salt and the cost of its record
abbrev pub wrap_key : Bytes → FactorRecord → Bytes
wrap_key secret row = derive_32 secret row.salt row.cost

-- the block's tag is that of the wrap key
abbrev pub HasTag : Bytes → Bytes → Bytes → Block → Type 0
HasTag wrap account label block = tag_of 8 14 wrap block.iv (block_extra account label block) block.text ≡ block.tag

-- the block opens under the wrap key to this main key
abbrev pub GivesMain : Bytes → Bytes → Bytes → Block → Bytes → Type 0
GivesMain wrap account label block main = Opens wrap (block_extra account label block) (main_of block) main

-- The contents hold a password at the label: the stash with its block, the factor, and its record.
pub record HoldsPassword (lost : Bool) (contents : Contents) (account : Bytes) (durable : Durable) (keys : Keys)
    (stash : Stash) (label : Bytes) (block : Block) (factor : Factor) (row : FactorRecord) : Type 0 where
  pub there : HasStash contents.records account (Some stash)
  pub holds : HoldsBy lost (settled contents) account durable keys stash
  pub block_is : get stash.blocks label ≡ Some block
  pub factor_is : get durable.factors label ≡ Some factor
  pub is_password : factor.kind ≡ Password
  pub row_is : record_at contents.records account label factor.edition ≡ Some row

-- Where no two recorded inputs coincide, a password's block has the tag of a secret's wrap key exactly where the
-- secret is the factor's.
abbrev pub OnlyPasswordLaw : Type 0
OnlyPasswordLaw = (lost : Bool) (seen : List Contents) (contents : Contents) (account : Bytes) (durable : Durable)
    (other : Option Durable) (keys : Keys) (stash : Stash) (label secret : Bytes) (block : Block) (factor : Factor)
    (row : FactorRecord)
    → Contains seen contents
    → IsClean (IsTurnSecret durable other (Some secret)) (Contains seen) account
    → HoldsPassword lost contents account durable keys stash label block factor row
    → HasTag (wrap_key secret row) account label block ↔ (secret ≡ factor.secret)

-- Whatever coincides, the block opens under the factor's own secret to the main key.
abbrev pub RightPasswordLaw : Type 0
RightPasswordLaw = (lost : Bool) (contents : Contents) (account : Bytes) (durable : Durable) (keys : Keys)
    (stash : Stash) (label : Bytes) (block : Block) (factor : Factor) (row : FactorRecord)
    → HoldsPassword lost contents account durable keys stash label block factor row
    → GivesMain (wrap_key factor.secret row) account label block keys.main
