-- The inputs that are recorded of an account, and that they don't coincide.
use Rattle.std.specs.Prelude.{◌≡◌, ◌⊎◌, ℕ, ◌++◌, Option, None, Some, drop, codes}
use Rattle.std.specs.FinMap.{get}
use Rattle.account_machine.specs.declared.factor.Factor.{Factor}
use Rattle.account_machine.specs.declared.user.Durable.{Durable}
use Rattle.gcm_seal.specs.Gcm.{tag_of}
use Rattle.hmac_sha.specs.Hmac.{hmac}
use Rattle.scrypt_kdf.specs.Derive.{derive, derive_32}
use Rattle.share_api.specs.Contents.{Bytes, Contents}
use Rattle.share_api.specs.declared.leaf.Leaf.{Leaf}
use Rattle.stash_format.specs.declared.block.Block.{Block}
use Rattle.stash_format.specs.Forms.{block_extra}
use Rattle.stash_format.specs.declared.contents.Contents.{Contents as Stash}
use Rattle.factor_files.specs.declared.factor.FactorRecord.{FactorRecord}
use Rattle.stored_home.specs.Holds.{HasStash, record_at}

-- an input to scrypt
pub record DeriveInput : Type 0 where
  pub secret : Bytes
  pub salt : Bytes
  pub cost : ℕ

-- an input to HMAC
pub record MacInput : Type 0 where
  pub key : Bytes
  pub text : Bytes

-- an input to the tag of AES-256-GCM
pub record TagInput : Type 0 where
  pub key : Bytes
  pub iv : Bytes
  pub extra : Bytes
  pub text : Bytes

abbrev pub derived_64 : DeriveInput → Bytes
derived_64 x = derive x.secret x.salt x.cost

abbrev pub derived_32 : DeriveInput → Bytes
derived_32 x = derive_32 x.secret x.salt x.cost

abbrev pub mac_of : MacInput → Bytes
mac_of x = hmac x.key x.text

abbrev pub computed_tag : TagInput → Bytes
computed_tag x = tag_of 8 14 x.key x.iv x.extra x.text

module _ (IsSecret : Bytes → Type 0) (IsImage : Contents → Type 0) (account : Bytes) where
  -- a secret with the salt and cost of a factor record of an image
  pub record IsDeriveInput (x : DeriveInput) : Type 0 where
    pub is_secret : IsSecret x.secret
    pub image : Contents
    pub is_image : IsImage image
    pub label : Bytes
    pub edition : ℕ
    pub row : FactorRecord
    pub read : record_at image.records account label edition ≡ Some row
    pub salt_is : x.salt ≡ row.salt
    pub cost_is : x.cost ≡ row.cost

  -- the high-entropy secret of a leaf of an image, with the rest of a recorded derivation
  pub record IsMacInput (x : MacInput) : Type 0 where
    pub from : DeriveInput
    pub derived : IsDeriveInput from
    pub image : Contents
    pub is_image : IsImage image
    pub tree : ℕ
    pub leaf : Leaf
    pub found : get image.leaves tree ≡ Some leaf
    pub key_is : x.key ≡ leaf.hes
    pub text_is : x.text ≡ codes "pin wrap" ++ drop 32 (derived_64 from)

  -- a wrap key that these give
  abbrev pub IsWrapKey : Bytes → Type 0
  IsWrapKey key =
      ((from : DeriveInput) × IsDeriveInput from × (key ≡ derived_32 from))
      ⊎ ((from : MacInput) × IsMacInput from × (key ≡ mac_of from))

  -- a block of a stash of an image under a recorded wrap key
  pub record IsTagInput (x : TagInput) : Type 0 where
    pub wrap : IsWrapKey x.key
    pub image : Contents
    pub is_image : IsImage image
    pub stash : Stash
    pub there : HasStash image.records account (Some stash)
    pub label : Bytes
    pub block : Block
    pub found : get stash.blocks label ≡ Some block
    pub iv_is : x.iv ≡ block.iv
    pub extra_is : x.extra ≡ block_extra account label block
    pub text_is : x.text ≡ block.text

  -- equal outputs come of equal recorded inputs only
  pub record IsClean : Type 0 where
    pub derive_clean : (x y : DeriveInput) → IsDeriveInput x → IsDeriveInput y → derived_32 x ≡ derived_32 y → x ≡ y
    pub mac_clean : (x y : MacInput) → IsMacInput x → IsMacInput y → mac_of x ≡ mac_of y → x ≡ y
    pub tag_clean : (x y : TagInput) → IsTagInput x → IsTagInput y → computed_tag x ≡ computed_tag y → x ≡ y

-- a factor of the durable part has this secret
pub record IsSecretOf (durable : Durable) (secret : Bytes) : Type 0 where
  pub label : Bytes
  pub factor : Factor
  pub there : get durable.factors label ≡ Some factor
  pub is : factor.secret ≡ secret

-- the secrets of a turn: those of the durable part and of the second possible one before it, and its own
abbrev pub IsTurnSecret : Durable → Option Durable → Option Bytes → Bytes → Type 0
IsTurnSecret durable None given secret = IsSecretOf durable secret ⊎ (given ≡ Some secret)
IsTurnSecret durable (Some other) given secret =
    IsSecretOf durable secret ⊎ IsSecretOf other secret ⊎ (given ≡ Some secret)
