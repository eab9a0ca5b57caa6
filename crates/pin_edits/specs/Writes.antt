-- Changes that are to be made.
use Rattle.std.specs.Prelude.{◌≡◌, ℕ, ◌≤◌, List, [], ◌∷◌, Option, None, Some, Result, Ok, Err, length}
use Rattle.factor_files.specs.Record.{factor_at}
use Rattle.factor_files.specs.declared.factor.FactorRecord.{FactorRecord}
use Rattle.record_names.specs.Names.{stash_name, factor_name}
use Rattle.share_api.specs.Conditions.{IsOwnName}
use Rattle.share_api.specs.Contents.{Bytes}
use Rattle.share_api.specs.declared.fault.ShareFault.{ShareFault}
use Rattle.share_api.specs.declared.step.Reply.{Reply}
use Rattle.share_api.specs.declared.step.Reply.TheVariants as replies
use Rattle.share_api.specs.declared.step.Reply.TheVariants.{Labelled}
use Rattle.share_api.specs.declared.step.Write.{Write}
use Rattle.share_api.specs.declared.step.Write.TheVariants.{Put, Remove, RemoveLeaf}
use Rattle.stash_format.specs.declared.contents.Contents.{Contents as Stash}
use Rattle.stash_format.specs.Record.{stash_at}
use Rattle.stored_home.specs.declared.fault.StoreFault.{StoreFault}
use Rattle.stored_home.specs.declared.fault.StoreFault.TheVariants.{Failed}

-- the share may be asked for the change: a record is the account's, and has at most 49,181 bytes
abbrev pub IsOwnWrite : Option Bytes → Write → Type 0
IsOwnWrite owner (Put name bytes) = IsOwnName owner name × (length bytes ≤ 49181)
IsOwnWrite owner (Remove name) = IsOwnName owner name
IsOwnWrite owner (RemoveLeaf label) = Unit {0}

-- the changes that take away what a PIN had: its leaf, and then its record
abbrev pub rest_of : Option (Write × Write) → List Write
rest_of None = []
rest_of (Some old) = old.0 ∷ old.1 ∷ []

-- the share may be asked for them
abbrev pub IsOwnRest : Option Bytes → Option (Write × Write) → Type 0
IsOwnRest owner None = Unit {0}
IsOwnRest owner (Some old) = IsOwnWrite owner old.0 × IsOwnWrite owner old.1

-- how a change ended: each fault of it is that it failed
abbrev pub ended : Result Unit ShareFault → Result Unit StoreFault
ended (Ok nothing) = Ok nothing
ended (Err fault) = Err Failed

-- the change puts the record of this stash
pub record IsStashWrite (account : Bytes) (stash : Stash) (write : Write) : Type 0 where
  pub bytes : Bytes
  pub write_is : write ≡ Put (stash_name account) bytes
  pub read : stash_at bytes ≡ Some stash
  pub size : length bytes ≤ 49181

-- how the insert of a leaf ended: each fault of it is that it failed
abbrev pub inserted : Result ℕ ShareFault → Result ℕ StoreFault
inserted (Ok label) = Ok label
inserted (Err fault) = Err Failed

-- the reply that this end stands for
abbrev pub inserted_reply : Result ℕ StoreFault → Reply
inserted_reply (Ok label) = Labelled label
inserted_reply (Err fault) = replies.Failed

-- the change puts the record of this factor
pub record IsRowWrite (account : Bytes) (row : FactorRecord) (write : Write) : Type 0 where
  pub bytes : Bytes
  pub write_is : write ≡ Put (factor_name account row.label row.edition) bytes
  pub read : factor_at bytes ≡ Some row
  pub size : length bytes ≤ 49181
