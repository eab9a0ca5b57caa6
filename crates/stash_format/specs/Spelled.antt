-- What has a spelling that is read again.
use Rattle.std.specs.Prelude.{◌≡◌, ℕ, ◌<◌, ◌≤◌, ◌^◌, List, [], length, All, None, IsTrue, IsSome, IfSome}
use Rattle.std.specs.FinMap.{entries}
use Rattle.home_names.specs.Names.{is_account_name}
use Rattle.home_names.specs.Names.{is_factor_label}
use Rattle.sealed_text.specs.declared.sealed.Sealed.{Sealed}
use Rattle.stash_format.specs.declared.block.Block.{Block}
use Rattle.stash_format.specs.declared.reset.Reset.{Reset}
use Rattle.stash_format.specs.declared.contents.Contents.{Contents}
use Rattle.stash_format.specs.Resets.{Resets}

-- a label and a block of an edition below the next one
pub record IsRow (next : ℕ) (row : List ℕ × Block) : Type 0 where
  pub label : IsTrue (is_factor_label row.0)
  pub edition : row.1.edition < next

-- contents that a record can have
pub record HasSpelling (contents : Contents) : Type 0 where
  pub account : IsTrue (is_account_name contents.account)
  pub next : 1 ≤ contents.next
  pub text : IfSome contents.payload (λ sealed. length sealed.text < 2 ^ 16)
  pub rows : All (IsRow contents.next) (entries contents.blocks)
  pub few : length (entries contents.blocks) ≤ 32
  -- payload and blocks are there together
  pub none : contents.payload ≡ None → entries contents.blocks ≡ []
  pub some : IsSome contents.payload → 1 ≤ length (entries contents.blocks)

-- the sizes of a block's parts
pub record HasBlockSizes (block : Block) : Type 0 where
  pub edition : block.edition < 2 ^ 64
  pub iv : length block.iv ≡ 12
  pub text : length block.text ≡ 32
  pub tag : length block.tag ≡ 16

-- the sizes of a sealed payload's parts
pub record HasSealedSizes (sealed : Sealed) : Type 0 where
  pub iv : length sealed.iv ≡ 12
  pub tag : length sealed.tag ≡ 16

-- the sizes of a record's parts, which their types give
pub record HasSizes (contents : Contents) : Type 0 where
  pub next : contents.next < 2 ^ 64
  pub payload : IfSome contents.payload HasSealedSizes
  pub rows : All (λ (row : List ℕ × Block). HasBlockSizes row.1) (entries contents.blocks)

-- the sizes of a reset secret's parts
pub record HasResetSizes (reset : Reset) : Type 0 where
  pub edition : reset.edition < 2 ^ 64
  pub secret : length reset.secret ≡ 32

-- reset secrets that a payload can have
pub record HasResetSpelling (resets : Resets) : Type 0 where
  pub labels : All (λ (row : List ℕ × Reset). IsTrue (is_factor_label row.0)) (entries resets)
  pub few : length (entries resets) ≤ 16
