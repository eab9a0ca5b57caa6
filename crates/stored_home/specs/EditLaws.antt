-- What is held while the device steps of an edit are made, failed ones among them: after each of them the durable
-- part before the edit or the one after it. Each edit has one commit point: the put of the stash, and of a vault
-- file the put of its record.
use Rattle.std.specs.Prelude.{◌≡◌, ℕ, List, [], ◌∷◌, Bool, false, Option, None, Some, IsSome, IsTrue}
use Rattle.std.specs.FinMap.{get}
use Rattle.account_machine.specs.declared.factor.Kind.TheVariants.{Pin}
use Rattle.account_machine.specs.declared.factor.Factor.{Factor}
use Rattle.account_machine.specs.declared.user.Durable.{Durable}
use Rattle.account_machine.specs.User.{no_home, new_home}
use Rattle.pw_types.specs.declared.stamp.Stamp.{Stamp}
use Rattle.record_names.specs.Names.{is_account_name, AreParts, File, stash_name, factor_name, file_name}
use Rattle.share_api.specs.Contents.{Bytes, Contents, settled}
use Rattle.pw_types.specs.declared.era.Era.{Era}
use Rattle.share_api.specs.Folds.{Throughout}
use Rattle.share_api.specs.Steps.{Does, Follows, FollowsInsert, with_leaf, leaf_of}
use Rattle.share_api.specs.declared.step.Step.{Step}
use Rattle.share_api.specs.declared.leaf.NewLeaf.{NewLeaf}
use Rattle.share_api.specs.declared.step.Write.TheVariants.{Put, Remove, RemoveLeaf}
use Rattle.share_api.specs.declared.leaf.Leaf.{Leaf}
use Rattle.sealed_text.specs.declared.sealed.Sealed.{Sealed}
use Rattle.stash_format.specs.declared.block.Block.{Block}
use Rattle.stash_format.specs.declared.contents.Contents.{Contents as Stash}
use Rattle.stash_format.specs.Resets.{Resets}
use Rattle.stash_format.specs.Record.{stash_at}
use Rattle.factor_files.specs.declared.factor.FactorRecord.{FactorRecord}
use Rattle.stored_home.specs.Unnamed.{IsUnnamed, NamesNot}
use Rattle.stored_home.specs.Bounds.{HasBounds}
use Rattle.stored_home.specs.Changes.{durable_with, durable_set, durable_without, durable_with_file, leaf_counted, factor_counted}
use Rattle.secret_stash.specs.Edits.{without_block, with_block, new_stash}
use Rattle.stored_home.specs.Adding.{Adds, HoldsEither}
use Rattle.stored_home.specs.Holds.{Keys, record_at, IsBlockOf, IsFileOf, HoldsBy, HasStash, HoldsUnder}

-- create: the stash is put
abbrev pub CreateLaw : Type 0
CreateLaw = (era : Era) (lost : Bool) (account : Bytes) (keys : Keys) (contents : Contents) (bytes : Bytes) (steps : List Step)
    → IsTrue (is_account_name account)
    → contents.doubt ≡ None
    → HoldsUnder lost contents account no_home keys
    → stash_at bytes ≡ Some (new_stash account)
    → Follows (Put (stash_name account) bytes ∷ []) steps
    → Throughout (Does era) (HoldsEither lost account keys no_home new_home) contents steps

-- a factor is added: its record is put, and then the stash
abbrev pub AddLaw : Type 0
AddLaw = (era : Era) (lost : Bool) (account : Bytes) (keys : Keys) (contents : Contents) (durable : Durable) (stash : Stash)
    (label : Bytes) (factor : Factor) (payload : Option Sealed) (block : Block) (row : FactorRecord)
    (row_bytes stash_bytes : Bytes) (resets : Resets) (steps : List Step)
    → IsTrue (is_account_name account)
    → contents.doubt ≡ None
    → Adds lost account keys contents durable stash label factor payload block row row_bytes stash_bytes resets
    → Follows (Put (factor_name account label stash.next) row_bytes ∷ Put (stash_name account) stash_bytes ∷ []) steps
    → Throughout (Does era) (HoldsEither lost account keys durable (durable_with durable label factor)) contents steps

-- a factor without a leaf gets another secret: the same, and then its old record is removed
abbrev pub UpdateLaw : Type 0
UpdateLaw = (era : Era) (lost : Bool) (account : Bytes) (keys : Keys) (contents : Contents) (durable : Durable) (stash : Stash)
    (label : Bytes) (factor old : Factor) (payload : Option Sealed) (block : Block) (row : FactorRecord)
    (row_bytes stash_bytes : Bytes) (resets : Resets) (steps : List Step)
    → IsTrue (is_account_name account)
    → contents.doubt ≡ None
    → get durable.factors label ≡ Some old
    → Adds lost account keys contents durable stash label factor payload block row row_bytes stash_bytes resets
    → Follows (Put (factor_name account label stash.next) row_bytes ∷ Put (stash_name account) stash_bytes
    ∷ Remove (factor_name account label old.edition) ∷ []) steps
    → Throughout (Does era) (HoldsEither lost account keys durable (durable_with durable label factor)) contents steps

-- a PIN is added: its leaf is inserted, then its record is put, and then the stash
abbrev pub AddPinLaw : Type 0
AddPinLaw = (era : Era) (account : Bytes) (keys : Keys) (contents : Contents) (durable : Durable) (stash : Stash)
    (label : Bytes) (factor : Factor) (leaf : NewLeaf) (payload : Option Sealed) (block : Block) (row : ℕ → FactorRecord)
    (row_bytes : ℕ → Bytes) (stash_bytes : Bytes) (resets : Resets) (steps : List Step)
    → IsTrue (is_account_name account)
    → contents.doubt ≡ None
    → HoldsUnder false contents account durable keys
    → ((tree : ℕ) → get contents.leaves tree ≡ None
    → Adds false account keys (with_leaf contents tree (leaf_of leaf)) durable stash label factor payload block
    (row tree) (row_bytes tree) stash_bytes resets)
    → FollowsInsert leaf (λ tree. Put (factor_name account label stash.next) (row_bytes tree)
    ∷ Put (stash_name account) stash_bytes ∷ []) steps
    → Throughout (Does era) (HoldsEither false account keys durable (durable_with durable label factor)) contents steps

-- a PIN gets another secret: the same, and then its old leaf and its old record are removed
abbrev pub UpdatePinLaw : Type 0
UpdatePinLaw = (era : Era) (account : Bytes) (keys : Keys) (contents : Contents) (durable : Durable) (stash : Stash)
    (label : Bytes) (factor old : Factor) (old_row : FactorRecord) (old_tree : ℕ) (old_leaf : Leaf) (leaf : NewLeaf)
    (payload : Option Sealed) (block : Block) (row : ℕ → FactorRecord)
    (row_bytes : ℕ → Bytes) (stash_bytes : Bytes) (resets : Resets) (steps : List Step)
    → IsTrue (is_account_name account)
    → contents.doubt ≡ None
    → HoldsUnder false contents account durable keys
    → get durable.factors label ≡ Some old
    → record_at contents.records account label old.edition ≡ Some old_row
    → old_row.leaf ≡ Some old_tree
    → get contents.leaves old_tree ≡ Some old_leaf
    → ((tree : ℕ) → get contents.leaves tree ≡ None → (row tree).leaf ≡ Some tree)
    → ((tree : ℕ) → get contents.leaves tree ≡ None
    → Adds false account keys (with_leaf contents tree (leaf_of leaf)) durable stash label factor payload block
    (row tree) (row_bytes tree) stash_bytes resets)
    → FollowsInsert leaf (λ tree. Put (factor_name account label stash.next) (row_bytes tree)
    ∷ Put (stash_name account) stash_bytes ∷ RemoveLeaf old_tree
    ∷ Remove (factor_name account label old.edition) ∷ []) steps
    → Throughout (Does era) (HoldsEither false account keys durable (durable_with durable label factor)) contents steps

-- a factor is removed: the stash is put without its block, and then its leaf, where it has one, and its record go
abbrev pub RemoveLaw : Type 0
RemoveLaw = (era : Era) (lost : Bool) (account : Bytes) (keys : Keys) (contents : Contents) (durable : Durable) (stash : Stash)
    (label : Bytes) (old : Factor) (stash_bytes : Bytes) (steps : List Step)
    → IsTrue (is_account_name account)
    → contents.doubt ≡ None
    → HasStash contents.records account (Some stash)
    → HoldsBy lost (settled contents) account durable keys stash
    → IsSome stash.payload
    → get durable.factors label ≡ Some old
    → HasBounds (durable_without durable label)
    → stash_at stash_bytes ≡ Some (without_block stash label)
    → Follows (Put (stash_name account) stash_bytes ∷ Remove (factor_name account label old.edition) ∷ []) steps
    → Throughout (Does era) (HoldsEither lost account keys durable (durable_without durable label)) contents steps

abbrev pub RemovePinLaw : Type 0
RemovePinLaw = (era : Era) (account : Bytes) (keys : Keys) (contents : Contents) (durable : Durable) (stash : Stash)
    (label : Bytes) (old : Factor) (old_row : FactorRecord) (tree : ℕ) (stash_bytes : Bytes) (steps : List Step)
    → IsTrue (is_account_name account)
    → contents.doubt ≡ None
    → HasStash contents.records account (Some stash)
    → HoldsBy false (settled contents) account durable keys stash
    → IsSome stash.payload
    → get durable.factors label ≡ Some old
    → record_at contents.records account label old.edition ≡ Some old_row
    → old_row.leaf ≡ Some tree
    → HasBounds (durable_without durable label)
    → stash_at stash_bytes ≡ Some (without_block stash label)
    → Follows (Put (stash_name account) stash_bytes ∷ RemoveLeaf tree
    ∷ Remove (factor_name account label old.edition) ∷ []) steps
    → Throughout (Does era) (HoldsEither false account keys durable (durable_without durable label)) contents steps

-- a block is sealed anew: the stash is put, and the durable part is the same before and after
abbrev pub ResealLaw : Type 0
ResealLaw = (era : Era) (lost : Bool) (account : Bytes) (keys : Keys) (contents : Contents) (durable : Durable) (stash : Stash)
    (label : Bytes) (factor : Factor) (block : Block) (stash_bytes : Bytes) (steps : List Step)
    → IsTrue (is_account_name account)
    → contents.doubt ≡ None
    → HasStash contents.records account (Some stash)
    → (h : HoldsBy lost (settled contents) account durable keys stash)
    → IsSome stash.payload
    → get durable.factors label ≡ Some factor
    → IsBlockOf lost contents.records (settled contents).leaves account keys.main h.resets label block factor
    → stash_at stash_bytes ≡ Some (with_block stash label block)
    → Follows (Put (stash_name account) stash_bytes ∷ []) steps
    → Throughout (Does era) (λ c. HoldsUnder lost c account durable keys) contents steps

-- a vault file is put
abbrev pub PutFileLaw : Type 0
PutFileLaw = (era : Era) (lost : Bool) (account : Bytes) (keys : Keys) (contents : Contents) (durable : Durable) (stash : Stash)
    (name bytes plain : Bytes) (steps : List Step)
    → IsTrue (is_account_name account)
    → contents.doubt ≡ None
    → HasStash contents.records account (Some stash)
    → HoldsBy lost (settled contents) account durable keys stash
    → AreParts (File account name)
    → IsSome stash.payload
    → IsFileOf keys.vault account name bytes plain
    → HasBounds (durable_with_file durable name plain)
    → Follows (Put (file_name account name) bytes ∷ []) steps
    → Throughout (Does era) (HoldsEither lost account keys durable (durable_with_file durable name plain)) contents steps

-- A record that the home doesn't name is removed: what is held stays, whether or not the removal failed.
abbrev pub UnnamedRecordLaw : Type 0
UnnamedRecordLaw = (era : Era) (lost : Bool) (account : Bytes) (keys : Keys) (contents : Contents) (durable : Durable)
    (name : Bytes) (steps : List Step)
    → IsTrue (is_account_name account)
    → contents.doubt ≡ None
    → IsUnnamed account contents durable name
    → HoldsUnder lost contents account durable keys
    → Follows (Remove name ∷ []) steps
    → Throughout (Does era) (λ c. HoldsUnder lost c account durable keys) contents steps

-- and so for a leaf that no factor's record names
abbrev pub UnnamedLeafLaw : Type 0
UnnamedLeafLaw = (era : Era) (lost : Bool) (account : Bytes) (keys : Keys) (contents : Contents) (durable : Durable)
    (tree : ℕ) (steps : List Step)
    → contents.doubt ≡ None
    → NamesNot contents.records account durable.factors tree
    → HoldsUnder lost contents account durable keys
    → Follows (RemoveLeaf tree ∷ []) steps
    → Throughout (Does era) (λ c. HoldsUnder lost c account durable keys) contents steps

-- A PIN's leaf gets another count and stamp, as by a try, a reset or a clearing: the durable part has them too.
abbrev pub CountLaw : Type 0
CountLaw = (account : Bytes) (keys : Keys) (contents : Contents) (durable : Durable) (stash : Stash) (label : Bytes)
    (factor : Factor) (row : FactorRecord) (tree : ℕ) (leaf : Leaf) (wrong : ℕ) (last : Stamp)
    → contents.doubt ≡ None
    → HasStash contents.records account (Some stash)
    → HoldsBy false (settled contents) account durable keys stash
    → IsSome stash.payload
    → get durable.factors label ≡ Some factor
    → factor.kind ≡ Pin
    → record_at contents.records account label factor.edition ≡ Some row
    → row.leaf ≡ Some tree
    → get contents.leaves tree ≡ Some leaf
    → HoldsUnder false (with_leaf contents tree (leaf_counted leaf wrong last)) account
    (durable_set durable label (factor_counted factor wrong last)) keys
