-- What the removals after a load do.
use Rattle.std.specs.Prelude.{◌≡◌, ◌⊎◌, ℕ, ◌≤◌, Bool, false, List, Some, Result, IfOk, IsOk, IsErrOf, IsTrue, Contains, length}
use Rattle.std.specs.FinMap.{get, empty}
use Rattle.factor_files.specs.declared.factor.FactorRecord.{FactorRecord}
use Rattle.record_names.specs.Names.{is_account_name, AreParts, File, stash_name, factor_name, leaf_name, file_name}
use Rattle.share_api.specs.Conditions.{IsFiledName}
use Rattle.share_api.specs.Contents.{Bytes}
use Rattle.share_api.specs.Seen.{ShareSeen, Tries}
use Rattle.share_api.specs.declared.step.Write.{Write}
use Rattle.share_api.specs.declared.step.Write.TheVariants.{Put, Remove, RemoveLeaf}
use Rattle.stored_home.specs.Loaded.{HasFactors, NamesTree}
use Rattle.stored_home.specs.declared.fault.StoreFault.{StoreFault}
use Rattle.stored_home.specs.declared.fault.StoreFault.TheVariants as faults
use Rattle.stored_home.specs.declared.stored.Stored.{Stored}
use Rattle.home_recovery.specs.Loose.{IsLoose}

-- the name of a vault file's record of the account
abbrev pub IsFileRecord : Bytes → Bytes → Type 0
IsFileRecord account name = (file : Bytes) × AreParts (File account file) × (name ≡ file_name account file)

-- a factor's record has this name
abbrev pub IsRowName : Bytes → Stored → Bytes → Type 0
IsRowName account stored name = (label : Bytes) × (row : FactorRecord) × (get stored.factors label ≡ Some row)
    × (name ≡ factor_name account label row.edition)

-- the record stays: the stash, a factor's record, and where the home has factors a vault file
abbrev pub Stays : Bytes → Stored → Bytes → Type 0
Stays account stored name =
    (name ≡ stash_name account) ⊎ IsRowName account stored name ⊎ (HasFactors stored × IsFileRecord account name)

-- what is removed may be
abbrev pub MayGo : Bool → Bytes → Stored → Write → Type 0
MayGo lost account stored (Put name bytes) = ⊥
MayGo lost account stored (Remove name) = IsFiledName account name × IsLoose account stored name
MayGo lost account stored (RemoveLeaf tree) = (lost ≡ false) × (NamesTree stored tree → ⊥)

abbrev pub MayAllGo : Bool → Bytes → Stored → List Write → Type 0
MayAllGo lost account stored writes = (write : Write) → Contains writes write → MayGo lost account stored write

-- what a listed name stands for stays or was removed
pub record IsSwept (lost : Bool) (account : Bytes) (stored : Stored) (writes : List Write) (name : Bytes) : Type 0 where
  pub filed : IsFiledName account name → Stays account stored name ⊎ Contains writes (Remove name)
  pub leaf : lost ≡ false → (one : Bytes) (tree : ℕ) → IsTrue (is_account_name one) → name ≡ leaf_name one tree
      → NamesTree stored tree ⊎ Contains writes (RemoveLeaf tree)

-- The share tried removals of what may go, at most one for each name, up to the first that failed. Where all went well
-- what the names stand for stays or was removed.
pub record Sweeps (lost : Bool) (account : Bytes) (stored : Stored) (listed : List Bytes) (old new : ShareSeen)
    (ok failed : Type 0) : Type 0 where
  pub writes : List Write
  pub tries : Tries old new writes ok failed
  pub few : length writes ≤ length listed
  pub may : MayAllGo lost account stored writes
  pub swept : ok → (name : Bytes) → Contains listed name → IsSwept lost account stored writes name

-- a home without factors keeps no vault files
pub record IsTrimmed (loaded stored : Stored) : Type 0 where
  pub stash : stored.stash ≡ loaded.stash
  pub factors : stored.factors ≡ loaded.factors
  pub lost : stored.lost ≡ loaded.lost
  pub some : HasFactors loaded → stored.files ≡ loaded.files
  pub none : (HasFactors loaded → ⊥) → stored.files ≡ empty

-- calls were stocked, and the share swept
pub record Finishes (lost : Bool) (account : Bytes) (loaded : Stored) (listed : List Bytes) (old new : ShareSeen)
    (result : Result Stored StoreFault) : Type 0 where
  pub stored : Stored
  pub trimmed : IsTrimmed loaded stored
  pub ready : ShareSeen
  pub stocked : ready ≡ record old { spare = ready.spare }
  pub more : old.spare ≤ ready.spare
  pub sweeps : Sweeps lost account stored listed ready new (IsOk result) (IsErrOf result faults.Failed)
  pub is : IfOk result (λ kept. kept ≡ stored)
