-- When an account's records and leaves hold a durable part. Records and leaves that nothing names don't
-- count. Where the tree is lost, of PINs only their labels, kinds and editions count.
use Rattle.std.specs.Prelude.{◌≡◌, ℕ, ◌<◌, ◌^◌, Bool, true, false, Option, None, Some, IfSome, IsSome, IsTrue, Ok, option_and_then}
use Rattle.std.specs.Ordering.{nat_cmp}
use Rattle.std.specs.Cmp.Lexicographic.{slice_cmp}
use Rattle.std.specs.FinMap.{FinMap, get, empty}
use Rattle.account_machine.specs.declared.factor.Kind.{Kind}
use Rattle.account_machine.specs.declared.factor.Kind.TheVariants.{Password, Pin}
use Rattle.account_machine.specs.declared.factor.Factor.{Factor}
use Rattle.account_machine.specs.declared.user.Durable.{Durable}
use Rattle.account_machine.specs.User.{no_home}
use Rattle.record_names.specs.Names.{is_factor_label, AreParts, File, stash_name, factor_name, file_name}
use Rattle.share_api.specs.Contents.{Bytes, Contents, Records, Leaves, settled}
use Rattle.share_api.specs.declared.leaf.Leaf.{Leaf}
use Rattle.sealed_text.specs.declared.sealed.Sealed.{Sealed}
use Rattle.sealed_text.specs.OpeningSealed.{Opens}
use Rattle.stash_format.specs.declared.block.Block.{Block}
use Rattle.stash_format.specs.Forms.{block_extra, main_of}
use Rattle.stash_format.specs.declared.contents.Contents.{Contents as Stash}
use Rattle.stash_format.specs.Resets.{Resets}
use Rattle.stash_format.specs.Record.{stash_at}
use Rattle.stash_format.specs.Payloads.{payload_at}
use Rattle.secret_stash.specs.Keys.{payload_extra, pin_wrap}
use Rattle.factor_files.specs.declared.factor.FactorRecord.{FactorRecord}
use Rattle.factor_files.specs.Record.{factor_at}
use Rattle.scrypt_kdf.specs.Derive.{derive, derive_32}
use Rattle.vault_crypt.specs.VaultFile.{opened_file}
use Rattle.stored_home.specs.Matching.{Matches}
use Rattle.stored_home.specs.Bounds.{HasBounds}

-- a home's factors by label, and its files by name
abbrev pub Factors : Type 0
Factors = FinMap (slice_cmp nat_cmp) Factor

abbrev pub Files : Type 0
Files = FinMap (slice_cmp nat_cmp) Bytes

-- the main key, under which the payload is sealed, and the vault key that the payload has
pub record Keys : Type 0 where
  pub main : Bytes
  pub vault : Bytes

-- the factor record of a label and an edition, where its bytes are in their form
abbrev pub record_at : Records → Bytes → Bytes → ℕ → Option FactorRecord
record_at records account label edition =
    option_and_then factor_at (get records (factor_name account label edition))

-- A PIN's leaf has the factor's secret, count, stamp and schedule, and the payload has its reset secret.
pub record IsLeafOf (resets : Resets) (label : Bytes) (row : FactorRecord) (factor : Factor) (leaf : Leaf)
    : Type 0 where
  pub les : leaf.les ≡ derive_32 factor.secret row.salt row.cost
  pub wrong : leaf.wrong ≡ factor.wrong
  pub last : leaf.last ≡ factor.stamp
  pub schedule : leaf.schedule ≡ factor.schedule
  pub reset : get resets label ≡ Some (record { edition = factor.edition; secret = leaf.reset })

-- A PIN's record names its leaf, and its block opens to the main key by the leaf's high-entropy secret.
pub record OpensByLeaf (leaves : Leaves) (resets : Resets) (account main label : Bytes) (block : Block)
    (row : FactorRecord) (factor : Factor) : Type 0 where
  pub tree : ℕ
  pub names : row.leaf ≡ Some tree
  pub leaf : Leaf
  pub found : get leaves tree ≡ Some leaf
  pub own : IsLeafOf resets label row factor leaf
  pub opens : Opens (pin_wrap leaf.hes (derive factor.secret row.salt row.cost)) (block_extra account label block)
      (main_of block) main

-- A password's record names no leaf, and its block opens to the main key by the secret alone.
pub record OpensBySecret (account main label : Bytes) (block : Block) (row : FactorRecord) (factor : Factor)
    : Type 0 where
  pub none : row.leaf ≡ None
  pub opens : Opens (derive_32 factor.secret row.salt row.cost) (block_extra account label block) (main_of block) main

-- a PIN's block, where the tree is lost or isn't
abbrev pub OpensPin : Bool → Leaves → Resets → Bytes → Bytes → Bytes → Block → FactorRecord → Factor → Type 0
OpensPin true leaves resets account main label block row factor = IsSome row.leaf
OpensPin false leaves resets account main label block row factor =
    OpensByLeaf leaves resets account main label block row factor

-- the factor's secret opens the block
abbrev pub OpensBy : Bool → Kind → Leaves → Resets → Bytes → Bytes → Bytes → Block → FactorRecord → Factor → Type 0
OpensBy lost Password leaves resets account main label block row factor =
    OpensBySecret account main label block row factor
OpensBy lost Pin leaves resets account main label block row factor =
    OpensPin lost leaves resets account main label block row factor

-- a block of the stash is the factor's: its record is there, and the secret opens it
pub record IsBlockOf (lost : Bool) (records : Records) (leaves : Leaves) (account main : Bytes) (resets : Resets)
    (label : Bytes) (block : Block) (factor : Factor) : Type 0 where
  pub edition : block.edition ≡ factor.edition
  pub row : FactorRecord
  pub read : record_at records account label factor.edition ≡ Some row
  pub label_is : row.label ≡ label
  pub edition_is : row.edition ≡ factor.edition
  pub kind_is : row.kind ≡ factor.kind
  pub opens : OpensBy lost factor.kind leaves resets account main label block row factor

-- the label's factor has a record that names this leaf
pub record NamesLeaf (records : Records) (account : Bytes) (factors : Factors) (label : Bytes) (tree : ℕ)
    : Type 0 where
  pub factor : Factor
  pub row : FactorRecord
  pub there : get factors label ≡ Some factor
  pub read : record_at records account label factor.edition ≡ Some row
  pub names : row.leaf ≡ Some tree

-- no two PINs have one leaf
abbrev pub AreApart : Records → Bytes → Factors → Type 0
AreApart records account factors = (one two : Bytes) (tree : ℕ)
    → NamesLeaf records account factors one tree → NamesLeaf records account factors two tree → one ≡ two

-- a record holds a file's bytes under the vault key
abbrev pub IsFileOf : Bytes → Bytes → Bytes → Bytes → Bytes → Type 0
IsFileOf vault account name bytes plain = opened_file vault account name bytes ≡ Ok plain

-- The vault file records are those of the files, and files have names of files.
pub record HoldsFiles (records : Records) (vault account : Bytes) (files : Files) : Type 0 where
  pub named : (name : Bytes) → IsSome (get files name) → AreParts (File account name)
  pub bytes : (name : Bytes) → AreParts (File account name)
      → Matches (IsFileOf vault account name) (get records (file_name account name)) (get files name)

-- the payload opens under the main key to the vault key and these reset secrets
pub record HoldsPayload (account : Bytes) (keys : Keys) (resets : Resets) (payload : Option Sealed) : Type 0 where
  pub text : Bytes
  pub opens : IfSome payload (λ sealed. Opens keys.main (payload_extra account) sealed text)
  pub read : payload_at text ≡ Some (record { vault = keys.vault; resets = resets })

-- a block with a factor's label, and an edition below the next
pub record IsSoundBlock (next : ℕ) (label : Bytes) (block : Block) : Type 0 where
  pub labelled : IsTrue (is_factor_label label)
  pub below : block.edition < next

-- The next edition is a 64-bit number, and all blocks are sound: so is each stash that is read.
pub record IsSound (stash : Stash) : Type 0 where
  pub within : stash.next < 2 ^ 64
  pub blocks : (label : Bytes) → IfSome (get stash.blocks label) (IsSoundBlock stash.next label)

-- The records and leaves beside this stash hold the durable part of a home.
pub record HoldsBy (lost : Bool) (contents : Contents) (account : Bytes) (durable : Durable) (keys : Keys)
    (stash : Stash) : Type 0 where
  pub made : durable.made ≡ true
  pub account_is : stash.account ≡ account
  pub next : stash.next ≡ durable.next
  pub sound : IsSound stash
  pub resets : Resets
  pub blocks : (label : Bytes) → Matches
      (IsBlockOf lost contents.records contents.leaves account keys.main resets label)
      (get stash.blocks label) (get durable.factors label)
  -- also where the tree is lost
  pub apart : AreApart contents.records account durable.factors
  -- a home without factors has no file
  pub bare : stash.payload ≡ None → (stash.blocks ≡ empty) × (durable.files ≡ empty)
  -- a home with factors
  pub bounds : IsSome stash.payload → HasBounds durable
  pub payload : IsSome stash.payload → HoldsPayload account keys resets stash.payload
  pub files : IsSome stash.payload → HoldsFiles contents.records keys.vault account durable.files

-- the stash's record is this stash, or there is none
abbrev pub HasStash : Records → Bytes → Option Stash → Type 0
HasStash records account None = get records (stash_name account) ≡ None
HasStash records account (Some stash) = option_and_then stash_at (get records (stash_name account)) ≡ Some stash

abbrev pub HoldsStash : Bool → Contents → Bytes → Durable → Keys → Option Stash → Type 0
HoldsStash lost contents account durable keys None = durable ≡ no_home
HoldsStash lost contents account durable keys (Some stash) = HoldsBy lost contents account durable keys stash

-- The contents hold the durable part, under these keys where it has factors. A leaf in doubt counts as taken
-- away, as the next step does it.
pub record HoldsUnder (lost : Bool) (contents : Contents) (account : Bytes) (durable : Durable) (keys : Keys)
    : Type 0 where
  pub stash : Option Stash
  pub there : HasStash contents.records account stash
  pub holds : HoldsStash lost (settled contents) account durable keys stash

-- the contents hold the durable part
abbrev pub Holds : Bool → Contents → Bytes → Durable → Type 0
Holds lost contents account durable = (keys : Keys) × HoldsUnder lost contents account durable keys
