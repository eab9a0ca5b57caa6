-- What loading does.
use Rattle.std.specs.Prelude.{◌≡◌, ◌+◌, ◌≤◌, List, [], None, Result, IfOk, IsOk, IsErrOf, is_some, length}
use Rattle.share_api.specs.Contents.{Bytes, Contents}
use Rattle.share_api.specs.Folds.{Fold}
use Rattle.share_api.specs.Seen.{ShareSeen, HasFailed}
use Rattle.share_api.specs.Steps.{Does}
use Rattle.share_api.specs.declared.step.Step.{Step}
use Rattle.account_machine.specs.declared.user.Durable.{Durable}
use Rattle.stored_home.specs.Holds.{Keys, HoldsUnder}
use Rattle.stored_home.specs.declared.fault.StoreFault.{StoreFault}
use Rattle.stored_home.specs.declared.fault.StoreFault.TheVariants as faults
use Rattle.stored_home.specs.declared.stored.Stored.{Stored}
use Rattle.home_recovery.specs.Damage.{IsDamaged, IsSoundHome}
use Rattle.home_recovery.specs.Reading.{RunsOver, AreReads}
use Rattle.home_recovery.specs.Told.{lost_tree}

-- Of whatever contents the steps fit: what is loaded is what is there, and what is told damaged is so.
pub record Loads (old new : ShareSeen) (account : Bytes) (result : Result Stored StoreFault) : Type 0 where
  pub steps : List Step
  pub runs : RunsOver old new steps
  -- nothing is changed
  pub reads : AreReads steps
  -- the names, the stash, a look for a lost tree, and for each of 32 blocks its record and its leaf
  pub few : length steps ≤ 67
  -- no more calls are used than there are steps
  pub spare : old.spare ≤ new.spare + length steps
  pub well : IsOk result → HasFailed steps → ⊥
  pub fails : IsErrOf result faults.Failed → HasFailed steps
  -- at least the names were asked for
  pub made : IsOk result → steps ≡ [] → ⊥
  -- the share's roots, where its tree is lost
  pub lost : IfOk result (λ stored. stored.lost ≡ lost_tree old.lost)
  pub loaded : IfOk result (λ stored. (contents new : Contents) → Fold (Does old.era) contents steps new
      → IsSoundHome (is_some old.lost) new account stored × (new.doubt ≡ None))
  pub damaged : (name : Bytes) → IsErrOf result (faults.Damaged name) → (contents new : Contents)
      → Fold (Does old.era) contents steps new → IsDamaged (is_some old.lost) new account name
  -- and nothing that is held is told damaged
  pub safe : (name : Bytes) → IsErrOf result (faults.Damaged name)
      → (contents new : Contents) (durable : Durable) (keys : Keys) → Fold (Does old.era) contents steps new → HoldsUnder (is_some old.lost) contents account durable keys → ⊥
