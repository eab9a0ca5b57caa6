-- Setting a PIN's count back.
use Rattle.std.specs.Prelude.{◌≡◌, ℕ, Bool, true, false, Some, Ok, Err, Result, IsOk, IsErr}
use Rattle.std.specs.FinMap.{get}
use Rattle.account_machine.specs.declared.factor.Factor.{Factor}
use Rattle.account_machine.specs.declared.user.Durable.{Durable}
use Rattle.account_machine.specs.Effect.{cleared}
use Rattle.factor_files.specs.declared.factor.FactorRecord.{FactorRecord}
use Rattle.secret_stash.specs.Keys.{opened_payload}
use Rattle.share_api.specs.Contents.{Bytes, Contents}
use Rattle.share_api.specs.Seen.{ShareSeen}
use Rattle.share_api.specs.declared.fault.ShareFault.{ShareFault}
use Rattle.stash_format.specs.declared.contents.Contents.{Contents as Stash}
use Rattle.stash_format.specs.declared.payload.Payload.{Payload}
use Rattle.stored_home.specs.Changes.{durable_set}
use Rattle.stored_home.specs.Holds.{Keys}
use Rattle.stored_home.specs.declared.fault.StoreFault.{StoreFault}
use Rattle.stored_home.specs.declared.fault.StoreFault.TheVariants as faults
use Rattle.stored_home.specs.declared.stored.Stored.{Stored}
use Rattle.home_edits.specs.Edits.{Edits, told_fault}
use Rattle.pin_edits.specs.Refusals.{ChangesNothing}

-- the payload under the main key has this reset secret, of the record's label and edition, and the record names the leaf
pub record IsResetOf (stash : Stash) (main label : Bytes) (row : FactorRecord) (tree : ℕ) (secret : Bytes) : Type 0 where
  pub names : row.leaf ≡ Some tree
  pub payload : Payload
  pub opened : opened_payload stash main ≡ Ok payload
  pub found : get payload.resets label ≡ Some (record { edition = row.edition; secret = secret })

-- A PIN's count is set back under the home's main key: after it the factor has count 0 and no stamp.
pub record ResetsPin (label main : Bytes) (contents : Contents) (keys : Keys) (before after : Durable) : Type 0 where
  pub main_is : keys.main ≡ main
  pub factor : Factor
  pub held : get before.factors label ≡ Some factor
  pub after_is : after ≡ durable_set before label (cleared factor)

-- how the reset of a leaf ended, as an edit tells it: a leaf that has another secret damages this record
abbrev pub told_reset : Bytes → Result Bool ShareFault → Result Unit StoreFault
told_reset name (Ok true) = Ok tt
told_reset name (Ok false) = Err (faults.Damaged name)
told_reset name (Err fault) = Err (told_fault fault)

-- The setting back of a PIN's count: an edit which changes nothing where it is refused.
pub record EditsByReset (old new : ShareSeen) (account : Bytes) (stored : Stored) (label main : Bytes)
    (result : Result Unit StoreFault) : Type 0 where
  pub edits : Edits old new account stored stored (IsOk result) (result ≡ Err faults.Failed) (ResetsPin label main)
  pub refused : IsErr result → (result ≡ Err faults.Failed → ⊥)
      → ChangesNothing old account stored (ResetsPin label main) edits.steps
