-- What an edit of an account's durable part does, over any share.
use Rattle.std.specs.Prelude.{◌≡◌, List, [], Bool, is_some}
use Rattle.account_machine.specs.declared.user.Durable.{Durable}
use Rattle.pw_types.specs.declared.era.Era.{Era}
use Rattle.share_api.specs.Contents.{Bytes, Contents}
use Rattle.share_api.specs.Folds.{Fold, Throughout}
use Rattle.share_api.specs.Seen.{ShareSeen, Runs, HasFailed}
use Rattle.share_api.specs.Steps.{Does}
use Rattle.share_api.specs.declared.fault.ShareFault.{ShareFault}
use Rattle.share_api.specs.declared.fault.ShareFault.TheVariants as shares
use Rattle.share_api.specs.declared.step.Step.{Step}
use Rattle.stored_home.specs.Adding.{HoldsEither}
use Rattle.stored_home.specs.Holds.{Keys, HoldsUnder}
use Rattle.stored_home.specs.Loaded.{IsKept}
use Rattle.stored_home.specs.declared.fault.StoreFault.{StoreFault}
use Rattle.stored_home.specs.declared.fault.StoreFault.TheVariants.{Failed, Damaged, NoMemory, TreeLost}
use Rattle.stored_home.specs.declared.stored.Stored.{Stored}

-- After each step the contents hold the durable part before the edit or the one after it; once the edit is done, the
-- one after it.
pub record IsAtomic (lost : Bool) (era : Era) (account : Bytes) (keys : Keys) (contents : Contents) (steps : List Step)
    (ok : Type 0) (before after : Durable) : Type 0 where
  pub throughout : Throughout (Does era) (HoldsEither lost account keys before after) contents steps
  pub last : ok → (new : Contents) → Fold (Does era) contents steps new → HoldsUnder lost new account after keys

-- The contents hold a durable part and are loaded, and what the edit asks of them, of its keys and of the durable
-- parts before and after it is met.
pub record Starts (lost : Bool) (account : Bytes) (stored : Stored)
    (Asks : Contents → Keys → Durable → Durable → Type 0)
    (contents : Contents) (keys : Keys) (before after : Durable) : Type 0 where
  pub holds : HoldsUnder lost contents account before keys
  pub kept : IsKept lost contents account stored
  pub asked : Asks contents keys before after

-- An edit over any share, of whatever contents the account's steps fit: it leaves the durable part before or the one
-- after, and where it is done the one after, with the loaded state of that.
pub record Edits (old new : ShareSeen) (account : Bytes) (stored after : Stored) (ok failed : Type 0)
    (Asks : Contents → Keys → Durable → Durable → Type 0) : Type 0 where
  pub steps : List Step
  pub runs : Runs old new steps
  -- it fails exactly where a step of it failed, also after the commit point
  pub fails : failed → HasFailed steps
  pub done : ok → HasFailed steps → ⊥
  pub made : ok → steps ≡ [] → ⊥
  pub atomic : (contents : Contents) (keys : Keys) (before next : Durable)
      → Starts (is_some old.lost) account stored Asks contents keys before next
      → IsAtomic (is_some old.lost) old.era account keys contents steps ok before next
  pub loaded : ok → (contents : Contents) (keys : Keys) (before next : Durable)
      → Starts (is_some old.lost) account stored Asks contents keys before next
      → (new : Contents) → Fold (Does old.era) contents steps new → IsKept (is_some old.lost) new account after

-- a share's fault, as an edit tells it
abbrev pub told_fault : ShareFault → StoreFault
told_fault shares.Failed = Failed
told_fault (shares.TreeLost host chip) = TreeLost host chip
told_fault (shares.Damaged name) = Damaged name
told_fault shares.NoMemory = NoMemory

-- the faults of an edit that has no PIN
abbrev pub IsEditFault : StoreFault → Type 0
IsEditFault Failed = Unit {0}
IsEditFault (Damaged name) = ⊥
IsEditFault NoMemory = Unit {0}
IsEditFault (TreeLost host chip) = ⊥
